use Rattle.std.proofs.Common.{◌∙◌, arith}
use Rattle.par_passes.specs.Laws.Calling.{if_ok}
use Rattle.rv_regs.specs.Depths.{depth_in}
use Rattle.rv_regs.proofs.Summed.{in_range, over_all, part_of}
use Rattle.rv_regs.proofs.depth_column.column.Goals as goal

pub by_chunks-requires-clause-callable : goal.by_chunks-requires-clause-callable
by_chunks-requires-clause-callable g c κs within = λ k d near. (c.requires.few, c.requires.cuts, in_range _ k d near, c.requires.starts)

pub returns : goal.returns
returns g c = if_ok c.by_chunks.result c.by_chunks.ensures (λ v all.
    all (part_of (depth_in c.args.columns.kinds.now c.args.columns.parents.now c.args.columns.places.now) c.args.ends.now) (λ n x lt h. h)
    ∙ over_all (depth_in c.args.columns.kinds.now c.args.columns.parents.now c.args.columns.places.now) c.args.ends.now _ c.requires.cuts)
