use Rattle.std.proofs.Common.{◌+◌, ◌*◌}
use Rattle.rv_regs.proofs.Blocked.{whole}
use Rattle.rv_regs.proofs.stretches.block.Goals as goal

pub returns : goal.returns
returns c = (c.join_rows.ensures.item, whole c.args.kinds.now c.args.depths.now (c.args.b * 32) (c.args.b * 32 + 32) c.unit.result c.join_rows.result c.unit.ensures c.join_rows.ensures.reaches)
