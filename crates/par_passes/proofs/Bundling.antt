-- Bundles in the order of their numbers.
use Rattle.std.proofs.Common.{◌≡◌, ℕ, zero, suc, ◌<◌, All, List, [], ◌∷◌, ◌++◌, length, map, Option, Some, Result, Ok, Err, slice_get, sym, ap, ◌∙◌, subst, arith}
use Rattle.std.specs.Prelude.{IfOk}
use Rattle.std.specs.Global.{Vec}
use Rattle.std.specs.List.{range_with_len}
use Rattle.std.proofs.lemmas.Option.{get_or_from_slice_get}
use Rattle.std.proofs.lemmas.List.FromFn.{length-range_with_len, get_or-range_with_len}
use Rattle.scan_lookback.specs.Placed.{Placed}
use Rattle.par_passes.specs.Passes.{Gives}
use Rattle.par_passes.specs.Crews.{Gave}

module _ {L : Type 0} where
  get_some : (bs : List L) (rest : List (Option L)) (c : ℕ) (x : L) → slice_get bs c ≡ Some x → slice_get (map Some bs ++ rest) c ≡ Some (Some x)
  get_some [] rest c x h = absurd cc
  get_some (b ∷ bs) rest zero x h = let e : b ≡ x = cc in ap (λ (y : L). Some (Some y)) e
  get_some (b ∷ bs) rest (suc c) x h = get_some bs rest c x h

  -- what is taken is what was put there
  pub each_was_put : (pairs : List (ℕ × L)) (count : ℕ) (bs : List L) (ys rest : List (Option L)) → Placed pairs count (ys ++ rest) → ys ≡ map Some bs → (c : ℕ) (x : L) → slice_get bs c ≡ Some x → (i : ℕ) × (slice_get pairs i ≡ Some (c, x))
  each_was_put pairs count bs ys rest placed is c x at =
      placed.from c x (subst (λ (l : List (Option L)). slice_get (l ++ rest) c ≡ Some (Some x)) (sym is) (get_some bs rest c x at))

below : {X : Type 0} (xs : List X) (i : ℕ) (x : X) → slice_get xs i ≡ Some x → i < length xs
below [] i x h = absurd cc
below (y ∷ ys) zero x h = omega arith
below (y ∷ ys) (suc i) x h = let r = below ys i x h in omega arith

-- bundles by their numbers, each of which a call gave for its number
pub gave_each : {B E F : Type 0} (count chunks : ℕ) (post : ℕ → Result B E → Type 0) (pairs : List (ℕ × B)) (r : Result (Vec B) F) → All (Gave chunks post) pairs → IfOk r (λ v. length v.items ≡ count)
    → IfOk r (λ v. (c : ℕ) (x : B) → slice_get v.items c ≡ Some x → (i : ℕ) × (slice_get pairs i ≡ Some (c, x))) → IfOk r (λ v. Gives (λ c b. post c (Ok b)) (range_with_len 0 count) v.items)
gave_each {B} count chunks post pairs (Ok v) made len each = record { as_many = len ∙ sym (length-range_with_len 0 count); each = by_number }
  where
    by_number : (k n : ℕ) (y : B) → slice_get (range_with_len 0 count) k ≡ Some n → slice_get v.items k ≡ Some y → post n (Ok y)
    by_number k n y at there =
        let less : k < count = (let m = length-range_with_len 0 count in let b = below (range_with_len 0 count) k n at in omega arith) in
        let is : k ≡ n = (let a = get_or_from_slice_get (range_with_len 0 count) k n 0 at in let b = get_or-range_with_len 0 count k 0 less in omega arith) in
        let t = each k y there in
        let gave : Gave chunks post (k, y) = subst (Gave chunks post) (get_or_from_slice_get pairs t.0 (k, y) (k, y) t.1) (made t.0 (k, y) (below pairs t.0 (k, y) t.1)) in
        subst (λ (m : ℕ). post m (Ok y)) is gave.1
gave_each count chunks post pairs (Err e) made len each = tt
