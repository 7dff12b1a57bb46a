use Rattle.std.proofs.Common.{rules}
use Rattle.board_core.proofs.Standing.{found, not_found}
use Rattle.board_core.proofs.seat.contains.Goals as goal

pub returns-then-x-n : goal.returns-then-x-n
returns-then-x-n c = found _ c.loop-x.x-index _ (search rules) c.if-x-n.true

pub returns : goal.returns
returns c = not_found _ _ (λ k h. c.loop-x.invariant k (search rules))
