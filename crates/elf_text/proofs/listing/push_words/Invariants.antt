use Rattle.std.proofs.Common.{◌≡◌, ◌++◌}
use Rattle.rv_text.specs.Written.{listed}
use Rattle.elf_text.proofs.Pushed.{first_words}
use Rattle.elf_text.proofs.listing.push_words.Given as goal

abbrev pub invariant-loop-k : goal.invariant-loop-k
invariant-loop-k l = l.out.items ≡ l.fn.out.items ++ listed (first_words l.bytes l.k)
