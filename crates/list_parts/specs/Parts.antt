-- Words on a `Part`. Those that speak of memory take the size of a value, and no type: a caller's row of a type parameter and its callee's may differ.
use Rattle.core.specs.Prelude.{◌≡◌, ℕ, ◌*◌, ◌^◌, ◌<◌, List, [], ◌∷◌, length}
use denote.RawPtr.{Ptr, ◌+ₚ◌}
use Rattle.core.specs.Mem.Slots.{slots_items, slots_ptr, slots_len}
use Rattle.core.specs.declared.slots.Slots.{Slots}
use Rattle.list_parts.specs.declared.part.Part.{Part}

-- this many values of that size can lie in one list
pub record Fits (size n : ℕ) : Type 0 where
  pub count : n < 2 ^ 64
  pub bytes : n * size < 2 ^ 63

module _ {X : Type 0} where
  abbrev pub part_items : Part X → List X
  part_items part = part.items

  -- where it begins
  abbrev pub part_start : Part X → Ptr
  part_start part = part.start

  -- both are the same places
  pub record SamePlaces (a b : Part X) : Type 0 where
    pub start : part_start b ≡ part_start a
    pub count : length (part_items b) ≡ length (part_items a)

  -- b begins where a ends
  pub record Follows (size : ℕ) (a b : Part X) : Type 0 where
    pub start : part_start b ≡ part_start a +ₚ length (part_items a) * size

  -- the part is a list's whole row of values
  pub record Covers (size : ℕ) (part : Part X) (xs : List X) : Type 0 where
    pub are : part_items part ≡ xs
    pub fits : Fits size (length xs)

  -- the part is all of a row of slots
  pub record Lies (size : ℕ) (part : Part X) (row : Slots X) : Type 0 where
    pub start : part_start part ≡ slots_ptr row
    pub count : length (part_items part) ≡ slots_len row
    pub items : part_items part ≡ slots_items row
    pub fits : Fits size (length (part_items part))

module _ {X : Type 0} where
  -- the parts lie one behind the other from p on
  abbrev pub Chain : ℕ → Ptr → List (Part X) → Type 0
  Chain size p [] = Unit {0}
  Chain size p (x ∷ xs) = (part_start x ≡ p) × Chain size (p +ₚ length (part_items x) * size) xs
