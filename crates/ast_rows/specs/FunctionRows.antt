-- Which rows are functions, and in which function each row stands, from the kinds of rows.
use Rattle.std.specs.Prelude.{ℕ, zero, suc, ◌+◌, Bool, List, length, map, filter, slice_index_or, if◌then◌else◌}
use Rattle.std.specs.List.{range_with_len, zip}
use Rattle.source_meaning.specs.declared.kinds.Kind.{Kind}
use Rattle.source_meaning.specs.declared.kinds.Kind.TheVariants.{Program}
use Rattle.source_meaning.specs.Rows.{is_function}

-- the places of the marks that are true
abbrev pub places_marked : List Bool → List ℕ
places_marked marks = map (λ p. p.0) (filter (λ p. p.1) (zip (range_with_len 0 (length marks)) marks))

-- the rows of functions, in order
abbrev pub functions_by : List Kind → List ℕ
functions_by kinds = places_marked (map is_function kinds)

-- how many functions a row of this kind is
abbrev pub function_mark : Kind → ℕ
function_mark kind = if is_function kind then 1 else 0

-- How many functions stand before row k. A function's own row stands behind all others of it, so this is the number of the function that
-- row k stands in, where the first one has the number 0
abbrev pub owner_at : List Kind → ℕ → ℕ
owner_at kinds zero = 0
owner_at kinds (suc k) = owner_at kinds k + function_mark (slice_index_or kinds k Program)

-- that of each row, in order, and then how many functions there are
abbrev pub functions_before : List Kind → List ℕ
functions_before kinds = map (owner_at kinds) (range_with_len 0 (length kinds + 1))
