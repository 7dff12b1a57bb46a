use Rattle.std.proofs.Common.{◌≡◌, take, drop, true}
use Rattle.ll1_sets.specs.Marking.{all_vanish}
use Rattle.ll1_sets.specs.LeftReached.{AreFrontsMarked}
use Rattle.ll1_sets.proofs.left_recursion.next_front.Given as goal

abbrev pub invariant-loop-i : goal.invariant-loop-i
invariant-loop-i l = record { vanish : all_vanish l.nullable (take l.i l.form) ≡ true; fronts : AreFrontsMarked l.nullable l.marks (drop l.i l.form) → AreFrontsMarked l.nullable l.marks l.form }
