use Rattle.std.proofs.Common.{◌≡◌, ℕ, length, true, false, get_or}
use Rattle.grammar_file.specs.Laws.Marks.{unmarked}
use Rattle.ll1_sets.specs.LeftReached.{IsLeftReached}
use Rattle.ll1_sets.proofs.left_recursion.left_reached.Given as goal

abbrev pub invariant-loop-x : goal.invariant-loop-x
invariant-loop-x l = record { len : length l.marks.items ≡ length l.grammar.nonterminals; sound : (y : ℕ) → get_or l.marks.items y false ≡ true → IsLeftReached l.grammar l.a y }

abbrev pub decreases-loop-x : goal.decreases-loop-x
decreases-loop-x l = unmarked l.marks.items
