-- What is made of each number below a count.
use Rattle.std.proofs.Common.{◌≡◌, ℕ, zero, suc, ◌+◌, ◌<◌, List, length, get_or, Some, ap, ◌∙◌, arith}
use Rattle.std.specs.Prelude.{slice_get}
use Rattle.std.specs.List.{range_with_len}
use Rattle.std.proofs.lemmas.List.FromFn.{get_or-range_with_len, length-range_with_len}
use Rattle.std.proofs.lemmas.Option.{slice_get_within}
use Rattle.par_passes.specs.Passes.{Gives}

range_get : (a n k : ℕ) → k < n → slice_get (range_with_len a n) k ≡ Some (a + k)
range_get a zero k h = absurd (omega arith)
range_get a (suc n) zero h = ap Some (let e : a ≡ a + 0 = omega arith in e)
range_get a (suc n) (suc k) h = range_get (a + 1) n k (omega arith) ∙ ap Some (let e : a + 1 + k ≡ a + suc k = omega arith in e)

pub in_range : (n k d : ℕ) → k < length (range_with_len 0 n) → get_or (range_with_len 0 n) k d < n
in_range n k d h =
    let e = length-range_with_len 0 n in
    let is : get_or (range_with_len 0 n) k d ≡ k = get_or-range_with_len 0 n k d (omega arith) ∙ (let z : 0 + k ≡ k = omega arith in z) in
    omega arith

module _ {U : Type 0} (post : ℕ → U → Type 0) (n : ℕ) (out : List U) (gives : Gives post (range_with_len 0 n) out) where
  pub given_many : length out ≡ n
  given_many = gives.as_many ∙ length-range_with_len 0 n

  pub given_at : (k : ℕ) (y : U) → slice_get out k ≡ Some y → post k y
  given_at k y h =
      let l = slice_get_within out k y h in
      let m = given_many in
      gives.each k k y (range_get 0 n k (omega arith) ∙ ap Some (let e : 0 + k ≡ k = omega arith in e)) h
