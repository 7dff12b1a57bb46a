use Rattle.std.proofs.Common.{ℕ, ◌<◌}
use Rattle.ll1_sets.specs.Predict.{IsLeftRecursive}
use Rattle.ll1_sets.proofs.left_recursion.least_left_recursive.Given as goal

abbrev pub invariant-loop-a : goal.invariant-loop-a
invariant-loop-a l = (n : ℕ) → n < l.a → ¬ IsLeftRecursive l.grammar n
