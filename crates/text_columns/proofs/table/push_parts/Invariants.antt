use Rattle.std.proofs.Common.{◌≡◌, ℕ, List, ◌++◌, true, drop, map}
use Rattle.text_columns.specs.Columns.{spaced, spaces}
use Rattle.text_columns.specs.Lines.{padded_in}
use Rattle.text_columns.proofs.table.push_parts.Given as goal

abbrev pub invariant-loop-column : goal.invariant-loop-column
invariant-loop-column l =
    (part : List ℕ) × (l.out.items ≡ l.initial.out.items ++ part)
    × ((part ++ spaces l.lacking) ++ spaced l.begins (map (padded_in l.line) (drop l.column-index l.columns)) ≡ spaced true (map (padded_in l.line) l.columns))
