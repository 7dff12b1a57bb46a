use Rattle.llp_wide.specs.Surveys.{Finds, OpensIn}
use Rattle.llp_wide.proofs.survey.enter_places.Given as goal

abbrev pub invariant-loop-k : goal.invariant-loop-k
invariant-loop-k l = Finds l.count (OpensIn l.places l.k) l.fn.marks.items l.fn.waiting.items l.marks.items l.waiting.items
