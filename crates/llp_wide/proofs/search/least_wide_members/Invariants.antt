use Rattle.llp_wide.specs.Grounds.{AreClassesOn, IsFillingOn, room_on}
use Rattle.llp_wide.proofs.search.least_wide_members.Given as goal

abbrev pub invariant-loop-claim : goal.invariant-loop-claim
invariant-loop-claim l = record { classes : AreClassesOn l.ground l.classes.items; filling : IsFillingOn l.ground l.classes.items l.queue }

abbrev pub decreases-loop-claim : goal.decreases-loop-claim
decreases-loop-claim l = room_on l.ground l.classes.items
