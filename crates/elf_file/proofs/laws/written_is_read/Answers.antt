use Rattle.elf_file.proofs.Written.{written-loads}
use Rattle.elf_file.proofs.laws.written_is_read.Goals as goal

pub returns : goal.returns
returns c = written-loads
