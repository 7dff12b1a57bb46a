-- The rule of a table of cells. The word of a cell is 0 before its value is put, and the value plus 1 after it.
use Rattle.std.specs.Prelude.{◌≡◌, ℕ, ◌+◌, ◌-◌, ◌<◌, ◌⊎◌, List, [], ◌∷◌, ◌++◌, length, slice_index}
use Rattle.atomic_table.specs.Table.{State, Me, Step}
use Rattle.chunk_seats.specs.Tallies.{total, times, Every}
use Rattle.scatter_rows.specs.declared.views.PutView.{PutView}

abbrev pub puts : List ℕ → ℕ → PutView
puts put share = record { put = put; share = share }

-- the view of a first seat, and of a new seat of that share
abbrev pub idle : ℕ → PutView
idle share = puts [] share

abbrev pub putting : PutView → ℕ → PutView
putting v i = puts (v.put ++ i ∷ []) v.share

abbrev pub parting : PutView → ℕ → PutView
parting v n = puts v.put (v.share - n)

abbrev pub uniting : PutView → PutView → PutView
uniting v w = puts (v.put ++ w.put) (v.share + w.share)

abbrev pub Putter : Type 0
Putter = Me (Unit {0}) PutView

-- what the put of the pair i tells
abbrev pub Puts : ℕ → Step (Unit {0}) → Putter → ℕ → Putter → Type 0
Puts i st m r m' = (m'.1 ≡ m.1) × (m'.0 ≡ putting m.0 i)

-- the cells of the pairs that the seat has put aren't 0
abbrev pub HasPut : List ℕ → List ℕ → PutView → Type 0
HasPut places words v = (i : ℕ) → 0 < times i v.put → (i < length places) × (0 < slice_index words (slice_index places i))

module _ (places values : List ℕ) (limit : ℕ) where
  -- the word of a cell is 0, or the value of its place plus 1, which is below the limit. So it is 0 where the cell is no place
  abbrev pub IsCell : ℕ → ℕ → Type 0
  IsCell cell word = (word ≡ 0) ⊎ ((i : ℕ) × (i < length places) × (slice_index places i ≡ cell) × (word ≡ slice_index values i + 1) × (slice_index values i < limit))

  pub record Celled (seats : ℕ) (s : State (Unit {0}) PutView) : Type 0 where
    pub inside : (i : ℕ) → i < length places → slice_index places i < length s.words
    pub cells : (c : ℕ) → IsCell c (slice_index s.words c)
    pub shared : total (λ v. v.share) s.views ≡ seats
    pub each : Every (HasPut places s.words) s.views
