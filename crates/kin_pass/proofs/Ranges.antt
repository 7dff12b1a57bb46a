-- What is made of each number below a count.
use Rattle.std.proofs.Common.{◌≡◌, ℕ, zero, suc, ◌+◌, ◌<◌, List, [], ◌∷◌, ◌++◌, length, Option, Some, slice_get, ap, subst, sym, ◌∙◌, ⊎_elim, arith}
use Rattle.std.specs.List.{range_with_len}
use Rattle.std.proofs.lemmas.List.FromFn.{length-range_with_len}
use Rattle.list_parts.specs.Laws.Chains.{get_snoc}
use Rattle.par_passes.specs.Passes.{Gives}
use Rattle.par_passes.specs.Laws.Giving.{gives_next}
use Rattle.par_passes.specs.Laws.Marking.{range_next}

range_get : (a n k : ℕ) → k < n → slice_get (range_with_len a n) k ≡ Some (a + k)
range_get a zero k h = absurd (omega arith)
range_get a (suc n) zero h = ap Some (let e : a ≡ a + 0 = omega arith in e)
range_get a (suc n) (suc k) h = range_get (a + 1) n k (omega arith) ∙ ap Some (let e : a + 1 + k ≡ a + suc k = omega arith in e)

pub some_less : {X : Type 0} (xs : List X) (k : ℕ) (y : X) → slice_get xs k ≡ Some y → k < length xs
some_less [] k y h = absurd (cc)
some_less (x ∷ xs) zero y h = omega arith
some_less (x ∷ xs) (suc k) y h = let l = some_less xs k y h in omega arith

module _ {U : Type 0} (post : ℕ → U → Type 0) where
  pub given_many : (n : ℕ) (out : List U) → Gives post (range_with_len 0 n) out → length out ≡ n
  given_many n out gives = gives.as_many ∙ length-range_with_len 0 n

  pub given_at : (n : ℕ) (out : List U) → Gives post (range_with_len 0 n) out → (k : ℕ) (y : U) → slice_get out k ≡ Some y → post k y
  given_at n out gives k y h =
      let l = some_less out k y h in
      let m = given_many n out gives in
      gives.each k k y (range_get 0 n k (omega arith) ∙ ap Some (let e : 0 + k ≡ k = omega arith in e)) h

  -- one more behind
  pub given_next : (k : ℕ) (out more : List U) (y : U) → more ≡ out ++ y ∷ [] → post k y → Gives post (range_with_len 0 k) out → Gives post (range_with_len 0 (k + 1)) more
  given_next k out more y is here gives =
      let at : k ≡ 0 + k = omega arith in
      subst (Gives post (range_with_len 0 (k + 1))) (sym is)
      (subst (λ l. Gives post l (out ++ y ∷ [])) (ap (λ j. range_with_len 0 k ++ j ∷ []) at ∙ sym (range_next 0 k)) (gives_next post (range_with_len 0 k) out k y gives here))

pub some_is : {X : Type 0} (x y : X) → Some x ≡ Some y → x ≡ y
some_is x y e = cc

pub second_is : {X : Type 0} (c : ℕ) (x y : X) (o : Option (ℕ × X)) → o ≡ Some (c, x) → o ≡ Some (c, y) → x ≡ y
second_is {X} c x y o p q = ap (λ (pair : ℕ × X). pair.1) (some_is (c, x) (c, y) (sym p ∙ q))

-- what holds of each item by its number, where one comes behind
pub each_next : {X : Type 0} (P : ℕ → X → Type 0) (xs ys : List X) (a : X) (k : ℕ) → ys ≡ xs ++ a ∷ [] → length xs ≡ k → ((c : ℕ) (x : X) → slice_get xs c ≡ Some x → P c x) → P k a
    → (c : ℕ) (x : X) → slice_get ys c ≡ Some x → P c x
each_next {X} P xs ys a k is many before here c x at =
    ⊎_elim (λ (h : slice_get xs c ≡ Some x). before c x h)
    (λ (h : (c ≡ length xs) × (a ≡ x)). subst (P c) h.1 (subst (λ j. P j a) (sym many ∙ sym h.0) here))
    (get_snoc xs a c x (subst (λ (l : List X). slice_get l c ≡ Some x) is at))
