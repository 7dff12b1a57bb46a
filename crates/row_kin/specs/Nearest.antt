-- The nearest places of a list of numbers, before a place and behind it.
use Rattle.std.specs.Prelude.{ℕ, zero, suc, ◌+◌, List, length, map, drop, Option, Some, None, if◌then◌else◌, nat_le, nat_lt}
use Rattle.std.specs.List.{position_from, range_with_len}
use Rattle.list_cuts.specs.Cuts.{number_at}

-- the least place behind i whose number is at most x, if there is one
abbrev pub next_le : List ℕ → ℕ → ℕ → Option ℕ
next_le xs i x = position_from (λ v. nat_le v x) (i + 1) (drop (i + 1) xs)

-- the greatest place before i whose number is below x, if there is one
abbrev pub prev_below : List ℕ → ℕ → ℕ → Option ℕ
prev_below xs zero x = None
prev_below xs (suc i) x = if nat_lt (number_at xs i) x then Some i else prev_below xs i x

-- a place, or n where there is none
abbrev pub place_or : ℕ → Option ℕ → ℕ
place_or n None = n
place_or n (Some j) = j

-- the place behind a place, or the first one where there is none
abbrev pub behind : Option ℕ → ℕ
behind None = zero
behind (Some j) = suc j

-- For each place the next one whose value is at most the place's own bound; how many values there are where there is none
abbrev pub nexts : (values bounds : List ℕ) → List ℕ
nexts values bounds = map (λ i. place_or (length values) (next_le values i (number_at bounds i))) (range_with_len 0 (length values))

-- For each place the one behind the nearest before it whose bound is below the place's own value; 0 where there is none
abbrev pub begins : (values bounds : List ℕ) → List ℕ
begins values bounds = map (λ i. behind (prev_below bounds i (number_at values i))) (range_with_len 0 (length values))
