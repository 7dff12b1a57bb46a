-- A fault of an end of the program comes only where that end's count of faults rose.
use Rattle.std.specs.Prelude.{◌≡◌, ℕ, ◌+◌, ◌-◌, ◌^◌, ◌≤◌, ◌<◌, min, Result, OnOk, OnErr}

-- the count rose, or stands at its type's end, where it cannot rise
abbrev pub Rose : ℕ → ℕ → Type 0
Rose before now = min (before + 1) (2 ^ 64 - 1) ≤ now

-- the count did not rise, and does not stand at its type's end
abbrev pub Stayed : ℕ → ℕ → Type 0
Stayed before now = (now ≡ before) × (before < 2 ^ 64 - 1)

-- a read or a write that succeeds leaves the count, and one that fails raises it by one, where it can rise
pub record HasCause {T E : Type 0} (before now : ℕ) (result : Result T E) : Type 0 where
  pub succeeded : OnOk result (now ≡ before)
  pub failed : OnErr result (now ≡ min (before + 1) (2 ^ 64 - 1))
  pub never_falls : before ≤ now
