use Rattle.scan_lookback.proofs.Before.{last_is}
use Rattle.scan_lookback.proofs.board.ScanBoard.step.Goals as goal

pub known-requires-clause-found : goal.known-requires-clause-found
known-requires-clause-found g c =
    let look = c.look-found.ensures in
    (look.0, last_is c.args.seat.now c.look-found.new.seat c.args.j look.0 look.1, look.2)

pub returns-clause-load : goal.returns-clause-load
returns-clause-load g c =
    let look = c.look-found.ensures in
    (look.0, look.1, c.known.ensures look.0 look.2)
