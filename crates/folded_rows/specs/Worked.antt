-- Worked programs, folded by their columns.
use Rattle.std.specs.Prelude.{ℕ, zero, suc, List, map, Option, None}
use Rattle.std.specs.List.{range_with_len}
use Rattle.source_meaning.specs.Ast.{Program}
use Rattle.source_meaning.specs.Rows.{Row, post}
use Rattle.folding.specs.Folding.{folded_program}
use Rattle.folded_rows.specs.Columns.{Columns, columns_of, constant_by, value_in, many, kind_in, left_of, right_of, new_rows}

-- the constants that are found in this many rounds
abbrev pub found_in : Columns → ℕ → List (Option ℕ)
found_in c zero = map (λ k. None) (range_with_len 0 (many c))
found_in c (suc n) = let before = found_in c n in map (λ k. constant_by (kind_in c k) (value_in before (left_of c k)) (value_in before (right_of c k))) (range_with_len 0 (many c))

-- and the rows by these
abbrev pub folded_in : ℕ → Program → List Row
folded_in n p = let c = columns_of (post p) in new_rows c (found_in c n)

abbrev pub rows_due : Program → List Row
rows_due p = post (folded_program p)
