use Rattle.std.proofs.Common.{arith}
use Rattle.board_core.proofs.Bounds.{share_small, weight_small, finished_small}
use Rattle.board_core.proofs.rules.apply.Goals as goal

pub finish-requires-clause-small : goal.finish-requires-clause-small
finish-requires-clause-small g c = let k = c.requires.kept.1 in omega (arith, k.few, finished_small _ _ _ _ k.sound)

pub join-requires-clause-shares : goal.join-requires-clause-shares
join-requires-clause-shares g c = let k = c.requires.kept.1 in omega (arith, k.few_seats, share_small _ _ _ _ k.sound c.in-Join.a, share_small _ _ _ _ k.sound c.in-Join.b)

pub join-requires-clause-weights : goal.join-requires-clause-weights
join-requires-clause-weights g c = let k = c.requires.kept.1 in omega (arith, k.few_seats, weight_small _ _ _ _ k.sound c.in-Join.a, weight_small _ _ _ _ k.sound c.in-Join.b)
