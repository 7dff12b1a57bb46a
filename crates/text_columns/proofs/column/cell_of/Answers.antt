use Rattle.std.proofs.Common.{◌∙◌, ◌-◌, ℕ, [], ap, sym, length, get_or, take, drop, arith}
use Rattle.std.proofs.lemmas.List.{get_or_past}
use Rattle.text_columns.specs.Kept.{cells_from}
use Rattle.text_columns.proofs.Cells.{cell_is, ends_in_order, length-cells_from}
use Rattle.text_columns.proofs.column.cell_of.Goals as goal

pub slice_bounds-result-count : goal.slice_bounds-result-count
slice_bounds-result-count c = let order = ends_in_order 0 c.args.ends.now (length c.args.bytes.now) c.args.row c.requires c.if-row-ends.true in omega (arith, order.0, c.start_of.ensures)

pub slice_bounds-result-start : goal.slice_bounds-result-start
slice_bounds-result-start c = let order = ends_in_order 0 c.args.ends.now (length c.args.bytes.now) c.args.row c.requires c.if-row-ends.true in omega (arith, order.0, c.start_of.ensures)

pub slice_bounds-result-end : goal.slice_bounds-result-end
slice_bounds-result-end c = let order = ends_in_order 0 c.args.ends.now (length c.args.bytes.now) c.args.row c.requires c.if-row-ends.true in omega (arith, order.0, order.1, c.start_of.ensures)

pub returns-then-row-ends : goal.returns-then-row-ends
returns-then-row-ends c =
    ap (λ (start : ℕ). take (get_or c.args.ends.now c.args.row 0 - start) (drop start c.args.bytes.now)) c.start_of.ensures
    ∙ sym (cell_is 0 c.args.ends.now c.args.bytes.now c.args.row c.if-row-ends.true)

pub returns-else-row-ends : goal.returns-else-row-ends
returns-else-row-ends c =
    sym (get_or_past (cells_from 0 c.args.ends.now c.args.bytes.now) c.args.row [] (omega (arith, c.if-row-ends.false, length-cells_from 0 c.args.ends.now c.args.bytes.now)))
