use Rattle.std.proofs.Common.{◌≡◌, ℕ, ◌<◌, true, false, Some, slice_get, get_or}
use Rattle.grammar_file.specs.Grammar.{Production}
use Rattle.llp_wide.specs.Endings.{finishes}
use Rattle.llp_wide.proofs.endings.next_last.Given as goal

abbrev pub invariant-loop-production : goal.invariant-loop-production
invariant-loop-production l =
    (place : ℕ) (rule : Production) → place < l.production-index → slice_get l.productions place ≡ Some rule → finishes l.nullable l.marks l.y rule.right ≡ true → get_or l.marks rule.left false ≡ true
