-- Items that are dealt to workers, each of which is worked on by one call with its number.
use Rattle.std.specs.Prelude.{◌≡◌, ℕ, List, slice_get, Some}
use Rattle.std.specs.Fork.{AcceptsAt, ChangesAt}
use denote.Param.Members.{Shared}
use denote.Ref.{MutBor}

module _ {F T : Type 0} (calls : Shared F (ℕ × (MutBor T × Unit {0})) ((Unit {0}) × (MutBor T × Unit {0}))) (f : F) where
  -- f may be called at each item, and leaves what is good for the item's number
  pub record Serves (items : List T) (good : ℕ → T → Type 0) : Type 0 where
    pub callable : (c : ℕ) (x : T) → slice_get items c ≡ Some x → AcceptsAt calls f c x
    pub fine : (c : ℕ) (x y : T) → slice_get items c ≡ Some x → ChangesAt calls f c x y → good c y

  -- it is what a call left of the item with that number
  pub record IsChanged (items : List T) (c : ℕ) (y : T) : Type 0 where
    pub from : (x : T) → slice_get items c ≡ Some x → ChangesAt calls f c x y
