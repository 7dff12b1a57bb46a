-- What stretches of the rows know by themselves, in lists one behind the other.
use Rattle.std.specs.Prelude.{ℕ, ◌+◌, ◌-◌, List, length, map, flat_map, take, drop}
use Rattle.std.specs.List.{range_with_len}
use Rattle.ast_rows.specs.NodeRows.{low_at}
use Rattle.row_laws.specs.Climbed.{parent_at, parents_by, place_at}
use Rattle.list_cuts.specs.Cuts.{number_at, start_of}
use Rattle.row_kin.specs.declared.stretches.Ties.{Ties}

-- what is known of a row: its parent, the first row of its subtree and its place
abbrev pub ties_of : ℕ → ℕ → ℕ → Ties
ties_of parent low place = record { parent = parent; low = low; place = place }

-- that of rows whose subtrees begin at these ones, where the first row has the number `from`
abbrev pub ties_from : ℕ → List ℕ → List Ties
ties_from from lows = map (λ k. ties_of (from + parent_at lows k) (from + low_at (parents_by lows) k) (place_at (parents_by lows) k)) (range_with_len 0 (length lows))

-- that of the rows from `from` on, before `to`, as if there were no others
abbrev pub ties_alone : List ℕ → ℕ → ℕ → List Ties
ties_alone lows from to = ties_from from (take (to - from) (drop from lows))

-- that of the stretches that end at these places
abbrev pub ties_by_stretches : (lows ends : List ℕ) → List Ties
ties_by_stretches lows ends = flat_map (λ c. ties_alone lows (start_of ends c) (number_at ends c)) (range_with_len 0 (length ends))
