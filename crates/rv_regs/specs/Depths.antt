-- Depths of rows by stretches: the sum of the steps before a row, and what stretches add to it.
use Rattle.std.specs.Prelude.{◌≡◌, ℕ, suc, ◌<◌, ℤ, List, length, map, slice_get, Some, if◌then◌else◌}
use Rattle.std.specs.List.{range_with_len}
use Rattle.list_cuts.specs.Cuts.{number_at, start_of}
use Rattle.word_monoid.specs.Folds.{prefix_of}
use Rattle.word_monoid.specs.Instances.{signed}
use Rattle.word_monoid.specs.Monoid.{IsItem}
use Rattle.source_meaning.specs.declared.kinds.Kind.{Kind}
use Rattle.row_rules.specs.Steps.{is_left}
use Rattle.depth_rules.specs.Sums.{depth_of, kind_above, place_at, steps_by}

module _ (kinds : List Kind) (parents places : List ℕ) where
  -- the sum of the steps before row k
  abbrev pub sum_before : ℕ → ℤ
  sum_before k = prefix_of signed (steps_by kinds parents places) k

  -- the depth of row k, where the steps before it have this sum
  abbrev pub depth_from : ℤ → ℕ → ℕ
  depth_from sum k = if is_left (kind_above kinds parents places k) (place_at kinds parents places k) then 0 else depth_of sum

  abbrev pub depth_in : ℕ → ℕ
  depth_in k = depth_from (sum_before k) k

  -- the steps of the rows from one up to another have this sum
  abbrev pub Adds : (from to : ℕ) → ℤ → Type 0
  Adds from to x = IsItem signed x × (signed.join (sum_before from) x ≡ sum_before to)

  -- what this many of the first stretches add, of those that end at these places
  pub record AreSums (ends : List ℕ) (count : ℕ) (sums : List ℤ) : Type 0 where
    pub many : length sums ≡ count
    pub each : (c : ℕ) (x : ℤ) → slice_get sums c ≡ Some x → Adds (start_of ends c) (number_at ends c) x

  -- the sums before this many of the first stretches, and behind them
  abbrev pub AreStarts : (ends : List ℕ) → ℕ → List ℤ → Type 0
  AreStarts ends count starts = starts ≡ map (λ c. sum_before (start_of ends c)) (range_with_len 0 (suc count))
