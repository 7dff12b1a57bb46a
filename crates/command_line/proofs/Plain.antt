-- Truth values of which both or none hold.
use Rattle.std.proofs.Common.{◌≡◌, Bool, true, false, not, refl}

pub is_not : (b : Bool) → not b ≡ true → b ≡ false
is_not true h = cc
is_not false h = refl
