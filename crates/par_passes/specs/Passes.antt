-- What the passes give.
use Rattle.std.specs.Prelude.{◌≡◌, ℕ, Bool, List, All, length, map, filter, slice_get, Some}
use Rattle.std.specs.List.{zip}

-- as many values as items, each of them one that a call at the item of its place gave
pub record Gives {T U : Type 0} (post : T → U → Type 0) (items : List T) (out : List U) : Type 0 where
  pub as_many : length out ≡ length items
  pub each : (k : ℕ) (x : T) (y : U) → slice_get items k ≡ Some x → slice_get out k ≡ Some y → post x y

-- the list is that of the values of each function that the calls at the items compute
abbrev pub Maps : {T U : Type 0} → (T → U → Type 0) → List T → List U → Type 0
Maps {T} {U} post items out = (g : T → U) → All (λ x. (r : U) → post x r → r ≡ g x) items → out ≡ map g items

-- the items whose mark is true
abbrev pub marked : {T : Type 0} → List T → List Bool → List T
marked items marks = map (λ p. p.0) (filter (λ p. p.1) (zip items marks))

-- it is what a call at the item of that number gave
abbrev pub GaveAt : {T U : Type 0} → (T → U → Type 0) → List T → ℕ → U → Type 0
GaveAt {T} post items k y = (x : T) × (slice_get items k ≡ Some x) × post x y
