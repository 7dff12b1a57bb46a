-- Numbers for which one instruction has room, and others.
use Rattle.std.proofs.Common.{◌≡◌, ℕ, ◌+◌, ◌<◌, ◌≤◌, ◌^◌, Bool, true, false, refl, arith}
use Rattle.std.specs.Prelude.{nat_lt, nat_le, ◌||◌}
use Rattle.std.proofs.lemmas.Bool.{ltb-true, ltb-false, leb-true, leb-false, or_parts}
use Rattle.rv_isa.specs.Encoding.{IsSigned}
use Rattle.rv_code.specs.Code.{negative, is_short_number}

pub short_number : (v : ℕ) → v < 2 ^ 32 → is_short_number v ≡ true → IsSigned 12 v
short_number v small e = go (nat_lt v 2048) refl e
  where
    go : (b : Bool) → nat_lt v 2048 ≡ b → (b || nat_le (negative 2048) v) ≡ true → IsSigned 12 v
    go true q h = let low = ltb-true v 2048 q in (omega arith, omega arith)
    go false q h = let high = leb-true (negative 2048) v h in (omega arith, omega arith)

pub long_number : (v : ℕ) → is_short_number v ≡ false → (2048 ≤ v) × (v + 2048 < 2 ^ 32)
long_number v e =
    let parts = or_parts (nat_lt v 2048) (nat_le (negative 2048) v) e in
    let low = ltb-false v 2048 parts.0 in
    let high = leb-false (negative 2048) v parts.1 in
    (omega arith, omega arith)
