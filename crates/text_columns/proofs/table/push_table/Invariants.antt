use Rattle.std.proofs.Common.{◌≡◌, ◌-◌, ◌++◌}
use Rattle.std.specs.List.{flat_map, range_with_len}
use Rattle.text_columns.specs.Columns.{row_line}
use Rattle.text_columns.proofs.table.push_table.Given as goal

abbrev pub invariant-loop-row : goal.invariant-loop-row
invariant-loop-row l =
    l.out.items ++ flat_map (row_line l.columns) (range_with_len l.row (l.rows - l.row)) ≡ l.initial.out.items ++ flat_map (row_line l.columns) (range_with_len 0 l.rows)
