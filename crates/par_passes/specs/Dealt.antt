-- A list whose parts are dealt to workers, each of whom fills those that it draws.
use Rattle.std.specs.Prelude.{◌≡◌, ℕ, ◌-◌, List, length, take, flat_map, slice_get, Some}
use Rattle.std.specs.List.{range_with_len}
use denote.RawPtr.{Ptr}
use Rattle.chunk_seats.specs.Chunks.{chunk_of}
use Rattle.list_parts.specs.declared.part.Part.{Part}
use Rattle.list_parts.specs.Parts.{part_items, part_start, SamePlaces, Chain}
use Rattle.par_passes.specs.Passes.{Gives}

-- each part has a place for each item of its chunk, the first value of the first one is there, and each is good with what calls give for its items
pub record Serves {T U : Type 0} (post : T → U → Type 0) (size : ℕ) (items : List T) (parts : List (Part U)) (good : ℕ → Part U → Type 0) : Type 0 where
  pub wide : (c : ℕ) (part : Part U) → slice_get parts c ≡ Some part → length (chunk_of size items c) ≡ length (part_items part)
  pub known : (c : ℕ) (part : Part U) → slice_get parts c ≡ Some part → Gives post (take (1 - c) (chunk_of size items c)) (take (1 - c) (part_items part))
  pub fine : (c : ℕ) (part full : Part U) → slice_get parts c ≡ Some part → SamePlaces part full → Gives post (chunk_of size items c) (part_items full) → good c full

-- a good part lies where the part that was dealt lay
abbrev pub InPlace : {U : Type 0} → List (Part U) → (ℕ → Part U → Type 0) → Type 0
InPlace {U} parts good = (c : ℕ) (old full : Part U) → slice_get parts c ≡ Some old → good c full → SamePlaces old full

-- its values are those of k parts in order, each of them good for its number
abbrev pub Joins : {U : Type 0} → (ℕ → Part U → Type 0) → ℕ → Part U → Type 0
Joins {U} good k whole = (back : List (Part U)) × Gives good (range_with_len 0 k) back × (part_items whole ≡ flat_map part_items back)

-- it lies where the parts lay, and has the values of parts that are good for their numbers, in order
pub record IsWhole {U : Type 0} (size : ℕ) (parts : List (Part U)) (good : ℕ → Part U → Type 0) (whole : Part U) : Type 0 where
  pub place : (start : Ptr) → Chain size start parts → part_start whole ≡ start
  pub wide : length (part_items whole) ≡ length (flat_map part_items parts)
  pub values : Joins good (length parts) whole

-- a part that lies where the c-th part lay is good with what calls give for the items of chunk c
pub record IsFilled {T U : Type 0} (post : T → U → Type 0) (size : ℕ) (items : List T) (parts : List (Part U)) (c : ℕ) (full : Part U) : Type 0 where
  pub in_place : (old : Part U) → slice_get parts c ≡ Some old → SamePlaces old full
  pub values : Gives post (chunk_of size items c) (part_items full)
