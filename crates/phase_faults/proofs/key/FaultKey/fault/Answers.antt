use Rattle.phase_faults.proofs.Told.{none_told, first_told}
use Rattle.phase_faults.proofs.key.FaultKey.fault.Goals as goal

pub returns-clause-none : goal.returns-clause-none
returns-clause-none c = none_told _ c.decoded.result c.decoded.ensures

pub returns-clause-first : goal.returns-clause-first
returns-clause-first c = first_told _ c.decoded.result c.decoded.ensures
