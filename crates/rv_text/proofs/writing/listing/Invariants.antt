use Rattle.std.proofs.Common.{◌≡◌, take}
use Rattle.rv_text.specs.Written.{listed}
use Rattle.rv_text.proofs.writing.listing.Given as goal

abbrev pub invariant-loop-word : goal.invariant-loop-word
invariant-loop-word l = l.out.items ≡ listed (take l.word-index l.words)
