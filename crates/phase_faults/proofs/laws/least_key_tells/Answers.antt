use Rattle.phase_faults.specs.Laws.Least.{least_of_rows}
use Rattle.phase_faults.proofs.laws.least_key_tells.Goals as goal

pub returns-clause-earliest : goal.returns-clause-earliest
returns-clause-earliest c = λ fs n h low met. (least_of_rows fs n h low met).told

pub returns-clause-fits : goal.returns-clause-fits
returns-clause-fits c = λ fs n h low met. (least_of_rows fs n h low met).fits
