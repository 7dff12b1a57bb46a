-- Searches that are cut off at the ends of a stretch.
use Rattle.std.specs.Prelude.{ℕ, List, length, take, max}
use Rattle.list_cuts.specs.Cuts.{number_at}
use Rattle.row_kin.specs.Nearest.{next_le, prev_below, place_or, behind}

-- the next of place k among the places before `to`; how many values there are where none of these ends it
abbrev pub next_until : (values bounds : List ℕ) → ℕ → ℕ → ℕ
next_until values bounds to k = place_or (length values) (next_le (take to values) k (number_at bounds k))

-- where the run that place k ends begins, among the places from `from` on
abbrev pub begin_from : (values bounds : List ℕ) → ℕ → ℕ → ℕ
begin_from values bounds from k = max from (behind (prev_below bounds k (number_at values k)))
