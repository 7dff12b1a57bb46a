use Rattle.std.proofs.Common.{◌≡◌, take}
use Rattle.text_columns.specs.Columns.{rows_of}
use Rattle.text_columns.proofs.table.rows_of.Given as goal

abbrev pub invariant-loop-column : goal.invariant-loop-column
invariant-loop-column l = l.rows ≡ rows_of (take l.column-index l.columns)
