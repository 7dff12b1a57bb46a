-- A fault as one number, so that the first fault is the least number.
use Rattle.std.specs.Prelude.{◌≡◌, ℕ, ◌+◌, ◌*◌, ◌/◌, ◌%◌, ◌^◌, ◌<◌, ◌≤◌, ◌==◌, Bool, List, [], ◌∷◌, Option, Some, None, ◌⊎◌, if◌then◌else◌}
use Rattle.source_meaning.specs.Scope.{Fault, earliest}
pub use Rattle.source_meaning.specs.First.{IsAmong}

abbrev pub key_of : Fault → ℕ
key_of f = 1024 * f.at + f.code

abbrev pub AreCodes : List Fault → Type 0
AreCodes [] = Unit {0}
AreCodes (f ∷ fs) = (f.code < 1024) × AreCodes fs

-- no fault, or one of the list whose key is least
abbrev pub IsFirst : List Fault → Option Fault → Type 0
IsFirst fs None = fs ≡ []
IsFirst fs (Some f) = IsAmong f fs × ((g : Fault) → IsAmong g fs → key_of f ≤ key_of g)

-- what stands for no fault
abbrev pub no_key : ℕ
no_key = 18446744073709551615

-- the key of a fault where there is one
abbrev pub key_if : Bool → (at code : ℕ) → ℕ
key_if b at code = if b then key_of (record { at = at; code = code }) else no_key

-- the fault that a key stands for
abbrev pub fault_of_key : ℕ → Option Fault
fault_of_key m = if m == no_key then None else Some (record { at = m / 1024; code = m % 1024 })

-- what stands for no fault, or the key of one at a token whose number has 32 bits
abbrev pub IsKey : ℕ → Type 0
IsKey m = (m ≡ no_key) ⊎ (m < 2 ^ 42)

-- no fault and no key, or one fault and its key
abbrev pub Tells : List Fault → ℕ → Type 0
Tells fs m = ((fs ≡ []) × (m ≡ no_key)) ⊎ ((f : Fault) × (fs ≡ f ∷ []) × (m ≡ key_of f) × (f.code < 1024) × (f.at < 2 ^ 32))

-- the key of the first fault, or no key where there is none
pub record IsLeastKey (fs : List Fault) (m : ℕ) : Type 0 where
  pub told : fault_of_key m ≡ earliest fs
  pub fits : IsKey m
