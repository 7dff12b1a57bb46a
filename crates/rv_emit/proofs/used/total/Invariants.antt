use Rattle.std.proofs.Common.{◌≡◌, ◌*◌, ◌≤◌, get_or}
use Rattle.word_monoid.specs.Folds.{prefixes}
use Rattle.word_monoid.specs.Instances.{count}
use Rattle.rv_emit.proofs.used.total.Given as goal

abbrev pub invariant-loop-k : goal.invariant-loop-k
invariant-loop-k l = (l.words ≡ get_or (prefixes count l.sizes) l.k 0) × (l.words ≤ 4294967295 * l.k)
