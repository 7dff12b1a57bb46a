-- Lists to which values are only added, where their order doesn't matter.
use Rattle.std.specs.Prelude.{◌≡◌, ℕ, ◌<◌, ◌⊎◌, List, [], ◌∷◌}

-- x stands in the list
abbrev pub IsIn : {A : Type 0} → List A → A → Type 0
IsIn [] x = ⊥
IsIn (y ∷ ys) x = (x ≡ y) ⊎ IsIn ys x

-- `new` has what `old` has, and what has the property
pub record Adds {A : Type 0} (P : A → Type 0) (old new : List A) : Type 0 where
  pub from : (x : A) → IsIn new x → IsIn old x ⊎ P x
  pub keeps : (x : A) → IsIn old x → IsIn new x
  pub meets : (x : A) → P x → IsIn new x

-- x has the property of some number below n
abbrev pub SomeBelow : {A : Type 0} → ℕ → (ℕ → A → Type 0) → A → Type 0
SomeBelow n P x = (k : ℕ) × (k < n) × P k x
