use Rattle.std.proofs.Common.{◌≡◌, ℕ, ◌<◌, Some, slice_get}
use Rattle.grammar_file.specs.Grammar.{Production}
use Rattle.ll1_sets.specs.Marking.{IsFollowClosedIn}
use Rattle.ll1_sets.proofs.sets.Sets.next_follow.Given as goal

abbrev pub invariant-loop-production : goal.invariant-loop-production
invariant-loop-production l =
    (number : ℕ) (rule : Production) → number < l.production-index → slice_get l.productions number ≡ Some rule → IsFollowClosedIn l.self.nullable.now l.self.first.now l.self.follow.now l.self.b rule.left rule.right
