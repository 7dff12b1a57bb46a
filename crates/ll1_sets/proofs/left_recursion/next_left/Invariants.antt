use Rattle.std.proofs.Common.{◌≡◌, ℕ, ◌<◌, true, false, Some, slice_get}
use Rattle.std.specs.Prelude.{◌==◌, ◌||◌, slice_index_or}
use Rattle.grammar_file.specs.Grammar.{Production}
use Rattle.ll1_sets.specs.LeftReached.{AreFrontsMarked}
use Rattle.ll1_sets.proofs.left_recursion.next_left.Given as goal

abbrev pub invariant-loop-production : goal.invariant-loop-production
invariant-loop-production l =
    (number : ℕ) (rule : Production) → number < l.production-index → slice_get l.productions number ≡ Some rule → (rule.left == l.a || slice_index_or l.marks rule.left false) ≡ true → AreFrontsMarked l.nullable l.marks rule.right
