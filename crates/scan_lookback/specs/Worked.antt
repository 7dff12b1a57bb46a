-- What the two seats of a worker hold.
use Rattle.std.specs.Prelude.{◌≡◌, ℕ, ◌≤◌}
use Rattle.chunk_seats.specs.Tallies.{times}
use Rattle.chunk_seats.specs.declared.views.ClaimView.{ClaimView}
use Rattle.scan_lookback.specs.declared.views.LookView.{LookView}

-- the claimed chunks, each once, are those done, shown and sealed
pub record Even (v : ClaimView) (w : LookView) : Type 0 where
  pub once : (n : ℕ) → times n v.claimed ≤ 1
  pub done : (n : ℕ) → times n v.done ≡ times n v.claimed
  pub shown : (n : ℕ) → times n w.shown ≡ times n v.claimed
  pub sealed : (n : ℕ) → times n w.sealed ≡ times n v.claimed

-- what is done is sealed, and what is shown was claimed, each once
pub record Tidy (v : ClaimView) (w : LookView) : Type 0 where
  pub once : (n : ℕ) → times n w.shown ≤ 1
  pub done : (n : ℕ) → times n v.done ≤ times n w.sealed
  pub shown : (n : ℕ) → times n w.shown ≤ times n v.claimed
