-- Sums over lists in which one item is replaced, and what holds of each item.
use Rattle.std.proofs.Common.{◌≡◌, ◌≢◌, ℕ, zero, suc, ◌+◌, ◌<◌, ◌≤◌, ◌⊎◌, inl, inr, List, [], ◌∷◌, ◌++◌, length, get_or, set, Bool, true, false, eqb, ltb, sym, refl, ap, ◌∙◌, subst, arith, eq-eqb, ne_eqb, cond, length-set}
use Rattle.std.proofs.lemmas.Bool.{ltb-true, ltb-false, eqb-true}
use Rattle.std.proofs.lemmas.List.{get_or-set_other}
use Rattle.board_core.specs.Steps.{shares}
use Rattle.chunk_seats.specs.Tallies.{total, one, times, OnceBelow}
use mathlib.Core.Logic.{dite}
use native.Mathlib.Decide.{ℕ_discrete}

module _ {A : Type 0} where
  module _ (f : A → ℕ) where
    pub total-set : (xs : List A) (i : ℕ) (w d : A) → i < length xs → total f (set xs i w) + f (get_or xs i d) ≡ total f xs + f w
    total-set [] i w d h = absurd (omega arith)
    total-set (x ∷ xs) zero w d h = omega arith
    total-set (x ∷ xs) (suc i) w d h = let r = total-set xs i w d (omega arith) in omega arith

    pub total-snoc : (xs : List A) (w : A) → total f (xs ++ w ∷ []) ≡ total f xs + f w
    total-snoc [] w = omega arith
    total-snoc (x ∷ xs) w = let r = total-snoc xs w in omega arith

    pub total-has : (xs : List A) (i : ℕ) (d : A) → f d ≡ 0 → f (get_or xs i d) ≤ total f xs
    total-has [] i d e = omega arith
    total-has (x ∷ xs) zero d e = omega arith
    total-has (x ∷ xs) (suc i) d e = let r = total-has xs i d e in omega arith

    pub total-two : (xs : List A) (i j : ℕ) (d : A) → i ≢ j → f d ≡ 0 → f (get_or xs i d) + f (get_or xs j d) ≤ total f xs
    total-two [] i j d n e = omega arith
    total-two (x ∷ xs) zero zero d n e = absurd (n refl)
    total-two (x ∷ xs) zero (suc j) d n e = let r = total-has xs j d e in omega arith
    total-two (x ∷ xs) (suc i) zero d n e = let r = total-has xs i d e in omega arith
    total-two (x ∷ xs) (suc i) (suc j) d n e = let r = total-two xs i j d (λ p. n (ap suc p)) e in omega arith

    -- where the default counts nothing, an item that counts something is there
    pub inside : (xs : List A) (i : ℕ) (d : A) → f d ≡ 0 → 0 < f (get_or xs i d) → i < length xs
    inside [] i d e h = absurd (omega arith)
    inside (x ∷ xs) zero d e h = omega arith
    inside (x ∷ xs) (suc i) d e h = let r = inside xs i d e h in omega arith

  pub total-le : (f g : A → ℕ) (xs : List A) (d : A) → ((i : ℕ) → f (get_or xs i d) ≤ g (get_or xs i d)) → total f xs ≤ total g xs
  total-le f g [] d h = omega arith
  total-le f g (x ∷ xs) d h = let r = total-le f g xs d (λ i. h (suc i)) in let first : f x ≤ g x = h zero in omega arith

  -- what holds at each place still holds where one item is replaced, or one comes at the end
  pub each-set : (Q : ℕ → A → Type 0) (xs : List A) (i : ℕ) (w d : A) → Q i w → ((j : ℕ) → Q j (get_or xs j d)) → (j : ℕ) → Q j (get_or (set xs i w) j d)
  each-set Q [] i w d q h j = h j
  each-set Q (x ∷ xs) zero w d q h zero = q
  each-set Q (x ∷ xs) zero w d q h (suc j) = h (suc j)
  each-set Q (x ∷ xs) (suc i) w d q h zero = h zero
  each-set Q (x ∷ xs) (suc i) w d q h (suc j) = each-set (λ n. Q (suc n)) xs i w d q (λ n. h (suc n)) j

  pub each-snoc : (Q : A → Type 0) (xs : List A) (w d : A) → Q w → ((j : ℕ) → Q (get_or xs j d)) → (j : ℕ) → Q (get_or (xs ++ w ∷ []) j d)
  each-snoc Q [] w d q h zero = q
  each-snoc Q [] w d q h (suc j) = h (suc j)
  each-snoc Q (x ∷ xs) w d q h zero = h zero
  each-snoc Q (x ∷ xs) w d q h (suc j) = each-snoc Q xs w d q (λ n. h (suc n)) j

pub times-append : (n : ℕ) (xs ys : List ℕ) → times n (xs ++ ys) ≡ times n xs + times n ys
times-append n [] ys = omega arith
times-append n (x ∷ xs) ys = let r = times-append n xs ys in omega arith

pub one-same : (n : ℕ) → one n n ≡ 1
one-same n = ap (λ (b : Bool). cond b 1 0) (eq-eqb n n refl)

pub one-other : (n x : ℕ) → x ≢ n → one n x ≡ 0
one-other n x h = ap (λ (b : Bool). cond b 1 0) (ne_eqb x n h)

pub by_bool : (b : Bool) (Q : Bool → Type 0) → (b ≡ true → Q true) → (b ≡ false → Q false) → Q b
by_bool true Q f g = f refl
by_bool false Q f g = g refl

pub by_lt : (m n : ℕ) (Q : Bool → Type 0) → (m < n → Q true) → (n ≤ m → Q false) → Q (ltb m n)
by_lt m n Q f g = by_bool (ltb m n) Q (λ e. f (ltb-true m n e)) (λ e. g (ltb-false m n e))

module _ {A : Type 0} where
  -- two items are put together at the first's place, and the second's place is left with what counts nothing
  pub total-join : (f : A → ℕ) (xs : List A) (a b : ℕ) (w d : A) → f d ≡ 0 → a ≢ b → a < length xs → b < length xs
      → total f (set (set xs a w) b d) + f (get_or xs a d) + f (get_or xs b d) ≡ total f xs + f w
  total-join f xs a b w d e n p q =
      let first = total-set f xs a w d p in
      let same : get_or (set xs a w) b d ≡ get_or xs b d = get_or-set_other xs a b w d (λ s. n (sym s)) in
      let count : f (get_or (set xs a w) b d) ≡ f (get_or xs b d) = ap f same in
      let second = total-set f (set xs a w) b d d (let l = length-set xs a w in omega arith) in omega arith

-- a sum of shares: nothing where one of them is nothing
pub joined_share : (x y : ℕ) → ((shares x y ≡ 0) × ((x ≡ 0) ⊎ (y ≡ 0))) ⊎ ((shares x y ≡ x + y) × (0 < x) × (0 < y))
joined_share zero y = inl (refl, inl refl)
joined_share (suc x) zero = inl (refl, inr refl)
joined_share (suc x) (suc y) = inr (refl, omega arith, omega arith)

module _ {A : Type 0} where
  none_left : (f w : A → ℕ) (xs : List A) (d : A) → total w xs ≡ 0 → ((i : ℕ) → w (get_or xs i d) ≡ 0 → f (get_or xs i d) ≡ 0) → total f xs ≡ 0
  none_left f w [] d e h = refl
  none_left f w (x ∷ xs) d e h = let first : f x ≡ 0 = h zero (omega arith) in let r = none_left f w xs d (omega arith) (λ i. h (suc i)) in omega arith

  -- where one item has the whole weight, and what has no weight counts nothing, that item's count is the sum
  pub total-whole : (f w : A → ℕ) (xs : List A) (a : ℕ) (d : A) → w d ≡ 0 → f d ≡ 0 → total w xs ≡ w (get_or xs a d)
      → ((i : ℕ) → w (get_or xs i d) ≡ 0 → f (get_or xs i d) ≡ 0) → total f xs ≡ f (get_or xs a d)
  total-whole f w [] a d p q e h = sym q
  total-whole f w (x ∷ xs) zero d p q e h = let r = none_left f w xs d (omega arith) (λ i. h (suc i)) in omega arith
  total-whole f w (x ∷ xs) (suc a) d p q e h =
      let le = total-has w xs a d p in
      let first : f x ≡ 0 = h zero (omega arith) in
      let r = total-whole f w xs a d p q (omega arith) (λ i. h (suc i)) in omega arith

-- the list without k
without : ℕ → List ℕ → List ℕ
without k [] = []
without k (x ∷ xs) = cond (eqb x k) (without k xs) (x ∷ without k xs)

without_times : (k n : ℕ) (xs : List ℕ) → n ≢ k → times n (without k xs) ≡ times n xs
unfolding without
without_times k n [] h = refl
without_times k n (x ∷ xs) h = let r = without_times k n xs h in
    by_bool (eqb x k) (λ b. times n (cond b (without k xs) (x ∷ without k xs)) ≡ one n x + times n xs)
    (λ e. let same : x ≡ k = eqb-true x k e in let miss = one-other n x (λ z. h (sym z ∙ same)) in omega arith) (λ e. omega arith)

without_none : (k : ℕ) (xs : List ℕ) → times k (without k xs) ≡ 0
unfolding without
without_none k [] = refl
without_none k (x ∷ xs) = let r = without_none k xs in
    by_bool (eqb x k) (λ b. times k (cond b (without k xs) (x ∷ without k xs)) ≡ 0) (λ e. r)
    (λ e. let miss : one k x ≡ 0 = ap (λ (b : Bool). cond b 1 0) e in omega arith)

without_length : (k : ℕ) (xs : List ℕ) → length (without k xs) + times k xs ≡ length xs
unfolding without
without_length k [] = refl
without_length k (x ∷ xs) = let r = without_length k xs in
    by_bool (eqb x k) (λ b. length (cond b (without k xs) (x ∷ without k xs)) + (one k x + times k xs) ≡ suc (length xs))
    (λ e. let hit : one k x ≡ 1 = ap (λ (b : Bool). cond b 1 0) e in omega arith)
    (λ e. let miss : one k x ≡ 0 = ap (λ (b : Bool). cond b 1 0) e in omega arith)

-- a list with each number below k once, and no other, has k items
pub once_length : (k : ℕ) (xs : List ℕ) → OnceBelow k (λ n. times n xs) → length xs ≡ k
once_length zero [] h = refl
once_length zero (x ∷ xs) h = let e = (h x).1 (omega arith) in let hit = one-same x in absurd (omega arith)
once_length (suc k) xs h =
    let shorter : OnceBelow k (λ n. times n (without k xs)) = λ n. (
      (λ below. let other : n ≢ k = omega arith in without_times k n xs other ∙ (h n).0 (omega arith)),
      λ above. dite (ℕ_discrete n k) (λ same. subst (λ (z : ℕ). times z (without k xs) ≡ 0) (sym same) (without_none k xs)) (λ other. without_times k n xs other ∙ (h n).1 (omega arith)),
    ) in
    let r = once_length k (without k xs) shorter in
    let l = without_length k xs in
    let o : times k xs ≡ 1 = (h k).0 (omega arith) in omega arith
