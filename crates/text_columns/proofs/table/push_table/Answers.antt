use Rattle.std.proofs.Common.{◌∙◌, ◌++◌, ◌+◌, ◌-◌, ap, List, ℕ}
use Rattle.std.specs.List.{flat_map, range_with_len}
use Rattle.text_columns.specs.Columns.{row_line}
use Rattle.text_columns.proofs.Joined.{one_more}
use Rattle.text_columns.proofs.table.push_table.Goals as goal

pub loop-row-preserved : goal.loop-row-preserved
loop-row-preserved c =
    ap (λ (out : List ℕ). out ++ flat_map (row_line c.args.columns.now) (range_with_len (c.loop-row.row + 1) (c.rows_of-rows.result - (c.loop-row.row + 1)))) c.in_ok-push_line-2.ensures
    ∙ one_more (row_line c.args.columns.now) c.loop-row.out.items c.loop-row.row c.rows_of-rows.result c.loop-row-test.true
    ∙ c.loop-row.invariant
