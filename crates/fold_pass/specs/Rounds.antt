-- Rounds in which the constants of rows are found.
use Rattle.std.specs.Prelude.{◌≡◌, ◌⊎◌, ℕ, zero, suc, ◌+◌, ◌<◌, ◌≤◌, true, List, [], ◌∷◌, length, map, Option, Some, None, is_some, if◌then◌else◌}
use Rattle.std.specs.List.{range_with_len}
use Rattle.folded_rows.specs.Columns.{Columns, constant_by, is_literal, number_in, value_in, many, kind_in, left_of, right_of}
use Rattle.folded_rows.specs.Levels.{AreHeights, AreLinked}

-- how many rows are not known to be constants
abbrev pub unknown : List (Option ℕ) → ℕ
unknown [] = 0
unknown (x ∷ xs) = (if is_some x then 0 else 1) + unknown xs

module _ (c : Columns) where
  -- the constant that row k is, by what is known of its children
  abbrev pub constant_at : List (Option ℕ) → ℕ → Option ℕ
  constant_at values k = constant_by (kind_in c k) (value_in values (left_of c k)) (value_in values (right_of c k))

  -- what is known of rows after this many rounds, the first of which finds the literals
  abbrev pub known_after : ℕ → List (Option ℕ)
  known_after zero = map (λ k. None) (range_with_len 0 (many c))
  known_after (suc n) = map (constant_at (known_after n)) (range_with_len 0 (many c))

  -- row k is the parent of one of these
  abbrev pub HasChild : List ℕ → ℕ → Type 0
  HasChild fresh k = (i : ℕ) × (i < length fresh) × (number_in c.parents (number_in fresh i) ≡ k)

  -- What is known after this many rounds, where fresh are the rows that were found in the last one: what is known of a row is what its children
  -- make of it, and a row of which nothing is known, though its children make a constant of it, is the parent of a fresh one.
  pub record AreRounds (rounds : ℕ) (values : List (Option ℕ)) (fresh : List ℕ) : Type 0 where
    pub as_many : length values ≡ many c
    pub known : (k x : ℕ) → k < many c → value_in values k ≡ Some x → constant_at values k ≡ Some x
    pub literals : (k : ℕ) → k < many c → is_literal (kind_in c k) ≡ true → is_some (value_in values k) ≡ true
    pub waiting : AreLinked c → (k x : ℕ) → k < many c → value_in values k ≡ None → constant_at values k ≡ Some x → HasChild fresh k
    pub same : AreLinked c → values ≡ known_after (suc rounds)
    pub within : (i : ℕ) → i < length fresh → number_in fresh i < many c
    pub found : (i : ℕ) → i < length fresh → is_some (value_in values (number_in fresh i)) ≡ true
    pub high : (n : ℕ) (height : ℕ → ℕ) → AreHeights c n height → (i : ℕ) → i < length fresh → rounds < height (number_in fresh i)

  -- what the parents of fresh rows become
  abbrev pub told_by : List (Option ℕ) → List ℕ → List (Option ℕ)
  told_by values fresh = map (λ k. constant_at values (number_in c.parents k)) fresh

  -- The first n of the fresh rows have told what their parents become: `next` are those of which nothing was known before.
  pub record AreTold (fresh : List ℕ) (told : List (Option ℕ)) (n : ℕ) (old new : List (Option ℕ)) (next : List ℕ) : Type 0 where
    pub as_many : length new ≡ length old
    pub kept : (k x : ℕ) → value_in old k ≡ Some x → value_in new k ≡ Some x
    pub changed : (k : ℕ) → (value_in new k ≡ value_in old k) ⊎ ((i : ℕ) × (i < length next) × (number_in next i ≡ k))
    pub next_of : (i : ℕ) → i < length next → (value_in old (number_in next i) ≡ None) × ((j : ℕ) × (j < n) × (number_in c.parents (number_in fresh j) ≡ number_in next i)
        × (value_in new (number_in next i) ≡ value_in told j) × (is_some (value_in told j) ≡ true))
    pub put : (j x : ℕ) → j < n → value_in told j ≡ Some x → is_some (value_in new (number_in c.parents (number_in fresh j))) ≡ true
    pub fewer : unknown new + length next ≡ unknown old

  -- this many rounds are no more than the highest rows that may be constants are high
  abbrev pub IsBounded : ℕ → Type 0
  IsBounded rounds = (n : ℕ) (height : ℕ → ℕ) → AreHeights c n height → rounds ≤ n
