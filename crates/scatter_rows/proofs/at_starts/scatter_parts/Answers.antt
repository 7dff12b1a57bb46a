use Rattle.std.proofs.Common.{◌-◌, length, sym, arith}
use Rattle.scatter_rows.proofs.Standing.{each_number, stands, last_start, covered}
use Rattle.scatter_rows.proofs.at_starts.scatter_parts.Given as given
use Rattle.scatter_rows.proofs.at_starts.scatter_parts.Goals as goal

pub put_parts-requires-clause-len : goal.put_parts-requires-clause-len
put_parts-requires-clause-len g c = λ κs within. sym (last_start g.K.Parts.part c.args.starts.now c.requires.starts)

pub put_parts-requires-clause-callable : goal.put_parts-requires-clause-callable
put_parts-requires-clause-callable g c = λ κs within. each_number (given.F-pre g c.args.make.now) (length c.args.starts.now - 1) c.requires.callable

pub put_parts-requires-clause-stand : goal.put_parts-requires-clause-stand
put_parts-requires-clause-stand g c = λ κs within k x near made. stands g.K.Parts.part c.args.starts.now c.requires.starts k x.items near (c.requires.parts k x near made)

pub put_parts-requires-clause-covered : goal.put_parts-requires-clause-covered
put_parts-requires-clause-covered g c = λ κs within i near.
    covered g.K.Parts.part c.args.starts.now c.requires.starts i (let last = last_start g.K.Parts.part c.args.starts.now c.requires.starts in omega arith)
