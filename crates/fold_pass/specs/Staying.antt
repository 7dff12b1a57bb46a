-- Which rows stay, as lists.
use Rattle.std.specs.Prelude.{◌≡◌, ℕ, ◌-◌, ◌≤◌, ◌&&◌, not, nat_lt, Bool, List, Option, map, slice_index_or, if◌then◌else◌}
use Rattle.std.specs.List.{range_with_len}
use Rattle.word_monoid.specs.Folds.{prefixes}
use Rattle.word_monoid.specs.Instances.{greatest}
use Rattle.folded_rows.specs.Columns.{Columns, gives_way, is_dropped, kept, many, rank, span, stays}

abbrev pub bit : Bool → ℕ
bit b = if b then 1 else 0

module _ (c : Columns) (values : List (Option ℕ)) where
  -- the spans of all rows, from the last one on
  abbrev pub spans_of : List ℕ
  spans_of = map (span c values) (range_with_len 0 (many c))

  -- the greatest span before each of them, and of all
  abbrev pub reaches_of : List ℕ
  reaches_of = prefixes greatest (map (λ x. x) spans_of)

  -- whether row k stays, by the greatest spans before rows
  abbrev pub stays_by : List ℕ → ℕ → Bool
  stays_by reaches k = not (nat_lt (many c - 1 - k) (slice_index_or reaches (many c - 1 - k) 0)) && (not (gives_way c values k) && not (is_dropped c values k))

  -- the rows that stay; for each row whether it stays, and how many rows before it do
  pub record AreStaying (kept_rows : List ℕ) (marks : List Bool) (ranks : List ℕ) : Type 0 where
    pub kept_are : kept_rows ≡ kept c values
    pub marks_are : marks ≡ map (stays c values) (range_with_len 0 (many c))
    pub ranks_are : (k : ℕ) → k ≤ many c → slice_index_or ranks k 0 ≡ rank c values k
