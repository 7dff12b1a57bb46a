use Rattle.board_core.proofs.Keeps.{all_sound, all_claimed, all_ordered, all_finished}
use Rattle.board_core.proofs.laws.every_schedule.Goals as goal

pub returns-clause-sound : goal.returns-clause-sound
returns-clause-sound g c sums seats events some = all_sound (g.M.WordMonoid.ops c.args.monoid.now) sums seats events some

pub returns-clause-claims : goal.returns-clause-claims
returns-clause-claims g c sums seats events some = all_claimed (g.M.WordMonoid.ops c.args.monoid.now) sums seats events some

pub returns-clause-ordered : goal.returns-clause-ordered
returns-clause-ordered g c sums seats events some orderly = all_ordered (g.M.WordMonoid.ops c.args.monoid.now) sums seats events some orderly

pub returns-clause-finishes : goal.returns-clause-finishes
returns-clause-finishes g c sums seats events some orderly = all_finished (g.M.WordMonoid.ops c.args.monoid.now) sums seats events some orderly
