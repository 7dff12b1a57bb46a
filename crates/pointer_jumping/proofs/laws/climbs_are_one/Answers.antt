use Rattle.pointer_jumping.proofs.Ways.{climbs_one}
use Rattle.pointer_jumping.proofs.laws.climbs_are_one.Goals as goal

pub returns-clause-ways : goal.returns-clause-ways
returns-clause-ways c = λ parents marks i d e a b first second. (climbs_one parents marks first second).0

pub returns-clause-ancestors : goal.returns-clause-ancestors
returns-clause-ancestors c = λ parents marks i d e a b first second. (climbs_one parents marks first second).1
