use Rattle.std.proofs.Common.{◌≡◌, ◌+◌, ◌*◌}
use Rattle.std.specs.Prelude.{flat_map}
use Rattle.std.specs.List.{range_with_len}
use Rattle.elf_file.specs.Load.{word_at}
use Rattle.elf_text.specs.Listing.{header_listed}
use Rattle.elf_text.proofs.listing.file_listed.Given as goal

abbrev pub invariant-loop-number : goal.invariant-loop-number
invariant-loop-number l = l.out.items ≡ flat_map (λ i. header_listed l.file (word_at l.file 28 + 32 * i)) (range_with_len 0 l.number)
