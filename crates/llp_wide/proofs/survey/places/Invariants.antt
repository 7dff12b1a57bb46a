use Rattle.std.proofs.Common.{◌+◌, length}
use Rattle.llp_wide.specs.Surveys.{unfound}
use Rattle.llp_wide.proofs.Surveying.{IsSurvey}
use Rattle.llp_wide.proofs.survey.places.Given as goal

abbrev pub invariant-loop-entrance : goal.invariant-loop-entrance
invariant-loop-entrance l = IsSurvey l.grammar l.nullable l.all l.marks.items l.waiting.items l.groups.items

abbrev pub decreases-loop-entrance : goal.decreases-loop-entrance
decreases-loop-entrance l = length l.waiting.items + unfound l.marks.items
