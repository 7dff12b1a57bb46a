use Rattle.pointer_jumping.proofs.Ways.{climbs_all}
use Rattle.pointer_jumping.proofs.laws.every_node_climbs.Goals as goal

pub returns : goal.returns
returns c = climbs_all
