use Rattle.std.proofs.Common.{◌+◌}
use Rattle.row_pieces.specs.Forms.{waits_by}
use Rattle.row_pieces.specs.Laws.Stepping.{uncut}
use Rattle.row_pieces.proofs.standing.Standing.cut_at.Goals as goal

pub returns-then-not-meets_top-clause-stands : goal.returns-then-not-meets_top-clause-stands
returns-then-not-meets_top-clause-stands c =
    let waits = waits_by c.args.form.now c.args.numbers.now (c.args.at.place + 1) in
    (uncut c.args.at.level waits c.args.self.now c.args.out.now.items (c.meets_top.ensures c.if-not-meets_top.true waits)).stands

pub returns-then-not-meets_top-clause-rows : goal.returns-then-not-meets_top-clause-rows
returns-then-not-meets_top-clause-rows c =
    let waits = waits_by c.args.form.now c.args.numbers.now (c.args.at.place + 1) in
    (uncut c.args.at.level waits c.args.self.now c.args.out.now.items (c.meets_top.ensures c.if-not-meets_top.true waits)).rows
