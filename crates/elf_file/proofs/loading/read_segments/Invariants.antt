use Rattle.std.proofs.Common.{◌≡◌, ◌+◌, ◌*◌, ◌-◌, [], Ok}
use Rattle.elf_file.specs.Load.{with_headers}
use Rattle.elf_file.proofs.loading.read_segments.Given as goal

abbrev pub invariant-loop-number : goal.invariant-loop-number
invariant-loop-number l = with_headers l.file (l.count - l.number) l.number (l.start + 32 * l.number) (Ok l.earlier) ≡ with_headers l.file l.count 0 l.start (Ok [])
