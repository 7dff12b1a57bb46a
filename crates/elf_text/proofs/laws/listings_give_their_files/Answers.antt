use Rattle.elf_text.proofs.Again.{given_back}
use Rattle.elf_text.proofs.laws.listings_give_their_files.Goals as goal

pub returns : goal.returns
returns c = given_back c.written_is_read.ensures c.listings_are_assembled.ensures.headed
