-- The items of a board that was taken apart.
use Rattle.std.specs.Prelude.{◌≡◌, ℕ, ◌<◌, ◌≤◌, Bool, true, false, List, slice_index_or}
use mathlib.Core.Option as maybe
use lib.ListN.{get_elem?}

-- what contracts see: how many were taken, and how many there were
pub record Returned : Type 0 where
  pub taken : ℕ
  pub count : ℕ

abbrev pub returned : ℕ → ℕ → Returned
returned taken count = record { taken = taken; count = count }

-- of that many slots those from `taken` on hold an item, each good for its number, and the others none
pub record AreLeft {T : Type 0} (good : ℕ → T → Type 0) (taken count : ℕ) (items : List T) (filled : List Bool) : Type 0 where
  pub most : taken ≤ count
  pub there : (k : ℕ) → taken ≤ k → k < count → slice_index_or filled k false ≡ true
  pub gone : (k : ℕ) → k < taken → slice_index_or filled k false ≡ false
  pub fine : (k : ℕ) (x : T) → taken ≤ k → get_elem? items k ≡ maybe.some x → good k x
