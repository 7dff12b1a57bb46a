use Rattle.std.proofs.Common.{◌<◌, length, ap, ◌∙◌, arith}
use Rattle.row_pieces.specs.Pieces.{Standing}
use Rattle.tree_passes.specs.Stretches.{nowhere}
use Rattle.tree_passes.proofs.Ranges.{other_default}
use Rattle.tree_passes.proofs.Stretched.{rows_few}
use Rattle.tree_passes.proofs.walked.columns_by_number.Goals as goal

pub stretch_columns-requires-clause-rows : goal.stretch_columns-requires-clause-rows
stretch_columns-requires-clause-rows c =
    let numbers = c.args.source.now.numbers.now in
    let ends = c.args.stretches.now.ends.now in
    let k = c.args.c in
    let i : k < length ends = c.requires.inside in
    let m = c.requires.stretches.handed.many in
    let h = c.requires.stretches.handed.each k i in
    let few = rows_few numbers ends c.requires.stretches.cut k i in
    let count = c.count-count.ensures ∙ ap (λ (s : Standing). s.count) (other_default c.args.stretches.now.handed.now k c.index-stretches-c.result nowhere (omega arith)) ∙ h.count in
    let rows = ap length (c.as_slice.ensures.value ∙ c.in_ok-made.ensures) in
    omega arith
