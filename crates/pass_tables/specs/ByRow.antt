-- What tables say of a row, by the row's number.
use Rattle.std.specs.Prelude.{ℕ, List, Option, Some, None, nat_eq, slice_index_or, if◌then◌else◌}
use Rattle.source_meaning.specs.Rows.{Row}
use Rattle.ast_rows.specs.NodeRows.{parent_numbers}

-- the number of a row's parent; the root is kept as its own parent and has none
abbrev pub parent_in : List Row → ℕ → Option ℕ
parent_in rs k = if nat_eq (slice_index_or (parent_numbers 0 rs) k 0) k then None else Some (slice_index_or (parent_numbers 0 rs) k 0)
