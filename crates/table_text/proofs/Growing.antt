-- Lists to which one item more is added.
use Rattle.std.proofs.Common.{◌≡◌, ◌∙◌, ◌⊎◌, inl, inr, ℕ, zero, suc, ◌+◌, ◌<◌, ◌≤◌, List, [], ◌∷◌, ◌++◌, length, drop, Bool, true, false, Some, Result, Ok, Err, get_or, slice_get, refl, sym, ap, subst, arith, length-append}
use Rattle.std.specs.Prelude.{IfErr}
use Rattle.std.specs.Result.{IsErrAnd}
use Rattle.std.proofs.lemmas.Bool.{cases_lt, true≢false}
use Rattle.std.proofs.lemmas.List.{get_or_append_left, get_or_at}
use Rattle.std.proofs.lemmas.Option.{same_Some, slice_get_within, slice_get-get_or}

module _ {A : Type 0} (P : ℕ → A → Type 0) (xs : List A) (x : A) where
  pub one_more : (d : A) (a : ℕ) → length xs ≡ a → ((n : ℕ) → n < a → P n (get_or xs n d)) → P a x → (n : ℕ) → n < a + 1 → P n (get_or (xs ++ x ∷ []) n d)
  one_more d a len each here n l = go (cases_lt n a)
    where
      go : (n < a) ⊎ (a ≤ n) → P n (get_or (xs ++ x ∷ []) n d)
      go (inl k) = let within : n < length xs = omega (arith, len, k) in subst (P n) (sym (get_or_append_left xs (x ∷ []) d n within)) (each n k)
      go (inr k) = let at : a ≡ n = omega (arith, l, k) in subst (P n) (sym (get_or_at xs x [] d n (len ∙ at))) (subst (λ (m : ℕ). P m x) at here)

  pub one_more_there : (a : ℕ) → length xs ≡ a → ((n : ℕ) (y : A) → slice_get xs n ≡ Some y → P n y) → P a x → (n : ℕ) (y : A) → slice_get (xs ++ x ∷ []) n ≡ Some y → P n y
  one_more_there a len each here n y is = go (cases_lt n a)
    where
      go : (n < a) ⊎ (a ≤ n) → P n y
      go (inl k) = let within : n < length xs = omega (arith, len, k) in each n y (sym (left xs n within) ∙ is)
        where
          left : (ys : List A) (m : ℕ) → m < length ys → slice_get (ys ++ x ∷ []) m ≡ slice_get ys m
          left [] m l = absurd (let e : m < 0 = l in omega arith)
          left (y ∷ ys) zero l = refl
          left (y ∷ ys) (suc m) l = left ys m (let e : suc m < suc (length ys) = l in omega arith)
      go (inr k) =
          let inside = slice_get_within (xs ++ x ∷ []) n y is in
          let more = length-append xs (x ∷ []) in
          let at : n ≡ a = omega (arith, inside, more, len, k) in
          let found : slice_get (xs ++ x ∷ []) n ≡ Some (get_or (xs ++ x ∷ []) n x) = slice_get-get_or (xs ++ x ∷ []) n x inside in
          let same : x ≡ y = sym (get_or_at xs x [] x n (len ∙ sym at)) ∙ same_Some (get_or (xs ++ x ∷ []) n x) y (sym found ∙ is) in
          subst (λ (m : ℕ). P m y) (sym at) (subst (P a) same here)

pub first_of_rest : {A : Type 0} (xs : List A) (i : ℕ) (d : A) → i < length xs → drop i xs ≡ get_or xs i d ∷ drop (i + 1) xs
first_of_rest {A} [] i d l = absurd (let k : i < 0 = l in omega arith)
first_of_rest {A} (x ∷ xs) zero d l = refl
first_of_rest {A} (x ∷ xs) (suc i) d l =
    let e : suc (i + 1) ≡ suc i + 1 = omega arith in
    first_of_rest xs i d (let k : suc i < suc (length xs) = l in omega arith) ∙ ap (λ (n : ℕ). get_or xs i d ∷ drop n (x ∷ xs)) e

pub no_rest : {A : Type 0} (xs : List A) (i : ℕ) → length xs ≤ i → drop i xs ≡ []
no_rest {A} [] zero l = refl
no_rest {A} [] (suc i) l = refl
no_rest {A} (x ∷ xs) zero l = absurd (let k : suc (length xs) ≤ 0 = l in omega arith)
no_rest {A} (x ∷ xs) (suc i) l = no_rest xs i (let k : suc (length xs) ≤ suc i = l in omega arith)

-- an error that is handed on
pub handed_on : {X E : Type 0} (P : E → Type 0) (r : Result X E) (f : E) → IsErrAnd r (λ e. e ≡ f) → P f → IfErr r P
handed_on P (Ok x) f is p = absurd is
handed_on P (Err e) f is p = subst P (sym is) p

-- a place that is marked
pub within_marks : (marks : List Bool) (a : ℕ) → get_or marks a false ≡ true → a < length marks
within_marks [] a h = absurd (true≢false (sym h))
within_marks (m ∷ marks) zero h = omega arith
within_marks (m ∷ marks) (suc a) h = let l = within_marks marks a h in omega arith
