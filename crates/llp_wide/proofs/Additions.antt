-- Laws of lists to which values are only added.
use Rattle.std.proofs.Common.{◌≡◌, ℕ, zero, suc, ◌+◌, ◌<◌, ◌≤◌, ◌⊎◌, inl, inr, ⊎_elim, List, [], ◌∷◌, ◌++◌, length, sym, subst, arith}
use Rattle.std.specs.List.{AllByRecursion, Contains}
use Rattle.std.specs.List.Sorted.{IsPermutation}
use Rattle.std.proofs.lemmas.List.Sorted.{Contains-permutation, IsPermutation-sym}
use Rattle.std.proofs.lemmas.Bool.{cases_lt}
use Rattle.llp_wide.specs.Added.{IsIn, Adds, SomeBelow}

pub in_parts : {A : Type 0} (xs : List A) (p x : A) → IsIn (xs ++ p ∷ []) x → IsIn xs x ⊎ (x ≡ p)
in_parts [] p x (inl h) = inr h
in_parts [] p x (inr h) = absurd h
in_parts (y ∷ xs) p x (inl h) = inl (inl h)
in_parts (y ∷ xs) p x (inr h) = ⊎_elim (λ (k : IsIn xs x). inl (inr k)) (λ (k : x ≡ p). inr k) (in_parts xs p x h)

pub in_still : {A : Type 0} (xs : List A) (p x : A) → IsIn xs x → IsIn (xs ++ p ∷ []) x
in_still [] p x h = absurd h
in_still (y ∷ xs) p x (inl h) = inl h
in_still (y ∷ xs) p x (inr h) = inr (in_still xs p x h)

pub in_last : {A : Type 0} (xs : List A) (p x : A) → x ≡ p → IsIn (xs ++ p ∷ []) x
in_last [] p x h = inl h
in_last (y ∷ xs) p x h = inr (in_last xs p x h)

pub adds_one : {A : Type 0} (xs : List A) (p : A) → Adds (λ x. x ≡ p) xs (xs ++ p ∷ [])
adds_one xs p = record { from = in_parts xs p; keeps = in_still xs p; meets = in_last xs p }

pub adds_none : {A : Type 0} (P : A → Type 0) (xs : List A) → ((x : A) → P x → ⊥) → Adds P xs xs
adds_none {A} P xs none = record { from = λ x h. inl h; keeps = λ x h. h; meets = λ x h. absurd (none x h) }

pub adds_as : {A : Type 0} (P Q : A → Type 0) (old new : List A) → ((x : A) → P x → Q x) → ((x : A) → Q x → P x) → Adds P old new → Adds Q old new
adds_as {A} P Q old new there back h =
    record {
      from = λ x k. ⊎_elim (λ (m : IsIn old x). inl m) (λ (m : P x). inr (there x m)) (h.from x k);
      keeps = h.keeps;
      meets = λ x k. h.meets x (back x k);
    }

pub adds_then : {A : Type 0} (P Q R : A → Type 0) (old next new : List A) → ((x : A) → P x → R x) → ((x : A) → Q x → R x) → ((x : A) → R x → P x ⊎ Q x) → Adds P old next → Adds Q next new → Adds R old new
adds_then {A} P Q R old next new left right parts h k =
    record {
      from = λ x m. ⊎_elim (λ (n : IsIn next x). ⊎_elim (λ (o : IsIn old x). inl o) (λ (o : P x). inr (left x o)) (h.from x n)) (λ (n : Q x). inr (right x n)) (k.from x m);
      keeps = λ x m. k.keeps x (h.keeps x m);
      meets = λ x m. ⊎_elim (λ (n : P x). k.keeps x (h.meets x n)) (λ (n : Q x). k.meets x n) (parts x m);
    }

pub adds_next : {A : Type 0} (P : ℕ → A → Type 0) (k : ℕ) (old next new : List A) → Adds (SomeBelow k P) old next → Adds (P k) next new → Adds (SomeBelow (k + 1) P) old new
adds_next {A} P k old next new h m =
    adds_then (SomeBelow k P) (P k) (SomeBelow (k + 1) P) old next new (λ x t. (t.0, (let l : t.0 < k = t.1 in omega arith), t.2)) (λ x t. (k, omega arith, t)) parts h m
  where
    parts : (x : A) → SomeBelow (k + 1) P x → SomeBelow k P x ⊎ P k x
    parts x (j, l, t) = ⊎_elim (λ (i : j < k). inl (j, i, t)) (λ (i : k ≤ j). inr (let e : j ≡ k = omega arith in subst (λ n. P n x) e t)) (cases_lt j k)

-- ---- lists, one behind the other

pub in_front : {A : Type 0} (xs ys : List A) (x : A) → IsIn xs x → IsIn (xs ++ ys) x
in_front [] ys x h = absurd h
in_front (y ∷ xs) ys x (inl e) = inl e
in_front (y ∷ xs) ys x (inr h) = inr (in_front xs ys x h)

pub in_behind : {A : Type 0} (xs ys : List A) (x : A) → IsIn ys x → IsIn (xs ++ ys) x
in_behind [] ys x h = h
in_behind (y ∷ xs) ys x h = inr (in_behind xs ys x h)

pub in_either : {A : Type 0} (xs ys : List A) (x : A) → IsIn (xs ++ ys) x → IsIn xs x ⊎ IsIn ys x
in_either [] ys x h = inr h
in_either (y ∷ xs) ys x (inl e) = inl (inl e)
in_either (y ∷ xs) ys x (inr h) = ⊎_elim (λ (k : IsIn xs x). inl (inr k)) (λ (k : IsIn ys x). inr k) (in_either xs ys x h)

pub adds_behind : {A : Type 0} (P : A → Type 0) (xs ys : List A) → Adds P [] ys → Adds P xs (xs ++ ys)
adds_behind {A} P xs ys h =
    record {
      from = λ x k. ⊎_elim (λ (m : IsIn xs x). inl m) (λ (m : IsIn ys x). ⊎_elim (λ (n : ⊥). absurd n) (λ (n : P x). inr n) (h.from x m)) (in_either xs ys x k);
      keeps = in_front xs ys;
      meets = λ x k. in_behind xs ys x (h.meets x k);
    }

-- ---- the same items in another order

has_in : {A : Type 0} (xs : List A) (x : A) → IsIn xs x → Contains xs x
has_in [] x h = absurd h
has_in (y ∷ xs) x (inl e) = (0, omega arith, sym e)
has_in (y ∷ xs) x (inr h) = let c = has_in xs x h in let l : c.0 < length xs = c.1 in (suc c.0, omega arith, c.2)

in_of : {A : Type 0} (xs : List A) (x : A) → Contains xs x → IsIn xs x
in_of [] x (k, l, e) = absurd (let m : k < 0 = l in omega arith)
in_of (y ∷ xs) x (zero, l, e) = inl (sym e)
in_of (y ∷ xs) x (suc k, l, e) = inr (in_of xs x (k, (let m : suc k < suc (length xs) = l in omega arith), e))

pub in_order : {A : Type 0} (xs ys : List A) → IsPermutation xs ys → (x : A) → IsIn xs x → IsIn ys x
in_order xs ys h x k = in_of ys x (Contains-permutation xs ys x h (has_in xs x k))

pub in_all : {A : Type 0} (P : A → Type 0) (xs : List A) → AllByRecursion P xs → (x : A) → IsIn xs x → P x
in_all P [] h x k = absurd k
in_all P (y ∷ xs) h x (inl e) = subst P (sym e) h.0
in_all P (y ∷ xs) h x (inr k) = in_all P xs h.1 x k

-- ---- what goes through a heap

pub all_queued : {A : Type 0} (claims new : List A) → IsPermutation claims new → Adds (IsIn claims) [] new
all_queued claims new same = record {
  from = λ x k. inr (in_order new claims (IsPermutation-sym claims new same) x k);
  keeps = λ x k. absurd k;
  meets = in_order claims new same;
}

pub more_queued : {A : Type 0} (old more claims new : List A) → IsPermutation claims more → IsPermutation (old ++ more) new → Adds (IsIn claims) old new
more_queued {A} old more claims new same put = record {
  from = λ x k. ⊎_elim (λ (m : IsIn old x). inl m) (λ (m : IsIn more x). inr (in_order more claims (IsPermutation-sym claims more same) x m)) (in_either old more x (in_order new (old ++ more) (IsPermutation-sym (old ++ more) new put) x k));
  keeps = λ x k. in_order (old ++ more) new put x (in_front old more x k);
  meets = λ x k. in_order (old ++ more) new put x (in_behind old more x (in_order claims more same x k));
}

pub taken_out : {A : Type 0} (old new : List A) (p : A) → IsPermutation old (p ∷ new) → Adds (λ x. x ≡ p) new old
taken_out {A} old new p same = record {
  from = λ x k. ⊎_elim (λ (e : x ≡ p). inr e) (λ (m : IsIn new x). inl m) (in_order old (p ∷ new) same x k);
  keeps = λ x k. in_order (p ∷ new) old (IsPermutation-sym old (p ∷ new) same) x (inr k);
  meets = λ x e. in_order (p ∷ new) old (IsPermutation-sym old (p ∷ new) same) x (inl e);
}
