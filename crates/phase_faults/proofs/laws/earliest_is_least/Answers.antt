use Rattle.phase_faults.specs.Laws.Earliest.{earliest_first}
use Rattle.phase_faults.proofs.laws.earliest_is_least.Goals as goal

pub returns : goal.returns
returns c = earliest_first
