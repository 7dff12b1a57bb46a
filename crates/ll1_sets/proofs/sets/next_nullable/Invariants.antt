use Rattle.std.proofs.Common.{◌≡◌, ℕ, ◌<◌, true, false, Some, slice_get, get_or}
use Rattle.grammar_file.specs.Grammar.{Production}
use Rattle.ll1_sets.specs.Marking.{all_vanish}
use Rattle.ll1_sets.proofs.sets.next_nullable.Given as goal

abbrev pub invariant-loop-production : goal.invariant-loop-production
invariant-loop-production l =
    (place : ℕ) (rule : Production) → place < l.production-index → slice_get l.productions place ≡ Some rule → all_vanish l.marks rule.right ≡ true → get_or l.marks rule.left false ≡ true
