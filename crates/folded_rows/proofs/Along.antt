-- What holds of the items of a list, whose places are numbered from some number on.
use Rattle.std.proofs.Common.{◌≡◌, if◌then◌else◌, ℕ, zero, suc, ◌+◌, ◌<◌, Bool, true, false, List, [], ◌∷◌, ◌++◌, length, map, get_or, refl, ap, ◌∙◌, subst, arith}
use Rattle.std.specs.List.{range_with_len, filter}

abbrev pub Along : {A : Type 0} → (ℕ → A → Type 0) → ℕ → List A → Type 0
Along P i [] = Unit {0}
Along P i (x ∷ xs) = P i x × Along P (i + 1) xs

pub along_first : {A : Type 0} (P : ℕ → A → Type 0) (xs ys : List A) (i : ℕ) → Along P i (xs ++ ys) → Along P i xs
along_first P [] ys i h = tt
along_first P (x ∷ xs) ys i h = (h.0, along_first P xs ys (i + 1) h.1)

pub along_rest : {A : Type 0} (P : ℕ → A → Type 0) (xs ys : List A) (i : ℕ) → Along P i (xs ++ ys) → Along P (i + length xs) ys
along_rest P [] ys i h = let z : i ≡ i + 0 = omega arith in subst (λ (n : ℕ). Along P n ys) z h
along_rest P (x ∷ xs) ys i h = let z : (i + 1) + length xs ≡ i + suc (length xs) = omega arith in subst (λ (n : ℕ). Along P n ys) z (along_rest P xs ys (i + 1) h.1)

pub along_both : {A : Type 0} (P : ℕ → A → Type 0) (xs ys : List A) (i : ℕ) → Along P i xs → Along P (i + length xs) ys → Along P i (xs ++ ys)
along_both P [] ys i h k = let z : i + 0 ≡ i = omega arith in subst (λ (n : ℕ). Along P n ys) z k
along_both P (x ∷ xs) ys i h k = let z : i + suc (length xs) ≡ (i + 1) + length xs = omega arith in (h.0, along_both P xs ys (i + 1) h.1 (subst (λ (n : ℕ). Along P n ys) z k))

pub along_at : {A : Type 0} (P : ℕ → A → Type 0) (xs : List A) (i k : ℕ) (d : A) → Along P i xs → k < length xs → P (i + k) (get_or xs k d)
along_at P [] i k d h l = absurd (omega arith)
along_at P (x ∷ xs) i zero d h l = let z : i ≡ i + 0 = omega arith in subst (λ (n : ℕ). P n x) z h.0
along_at P (x ∷ xs) i (suc k) d h l = let z : (i + 1) + k ≡ i + suc k = omega arith in subst (λ (n : ℕ). P n (get_or xs k d)) z (along_at P xs (i + 1) k d h.1 (omega arith))

-- from what holds at each place
pub along_all : {A : Type 0} (P : ℕ → A → Type 0) (xs : List A) (i : ℕ) (d : A) → ((k : ℕ) → k < length xs → P (i + k) (get_or xs k d)) → Along P i xs
along_all P [] i d h = tt
along_all P (x ∷ xs) i d h =
    let z : i + 0 ≡ i = omega arith in (
      subst (λ (n : ℕ). P n x) z (h 0 (omega arith)),
      along_all P xs (i + 1) d (λ k l. let e : i + suc k ≡ (i + 1) + k = omega arith in subst (λ (n : ℕ). P n (get_or xs k d)) e (h (suc k) (omega arith))),
    )

-- ---- the items that flags pick
abbrev pub pick : {A : Type 0} → List Bool → List A → List A
pick [] xs = []
pick (b ∷ bs) [] = []
pick (true ∷ bs) (x ∷ xs) = x ∷ pick bs xs
pick (false ∷ bs) (x ∷ xs) = pick bs xs

pub pick_both : {A : Type 0} (bs cs : List Bool) (xs ys : List A) → length bs ≡ length xs → pick (bs ++ cs) (xs ++ ys) ≡ pick bs xs ++ pick cs ys
pick_both [] cs [] ys e = refl
pick_both [] cs (x ∷ xs) ys e = absurd (omega arith)
pick_both (b ∷ bs) cs [] ys e = absurd (omega arith)
pick_both (true ∷ bs) cs (x ∷ xs) ys e = ap (λ l. x ∷ l) (pick_both bs cs xs ys (omega arith))
pick_both (false ∷ bs) cs (x ∷ xs) ys e = pick_both bs cs xs ys (omega arith)

abbrev pub bit : Bool → ℕ
bit b = if b then 1 else 0

abbrev pub trues : List Bool → ℕ
trues [] = 0
trues (b ∷ bs) = bit b + trues bs

pub trues_both : (bs cs : List Bool) → trues (bs ++ cs) ≡ trues bs + trues cs
trues_both [] cs = omega arith
trues_both (b ∷ bs) cs = let e = trues_both bs cs in omega arith

pub pick_many : {A : Type 0} (bs : List Bool) (xs : List A) → length bs ≡ length xs → length (pick bs xs) ≡ trues bs
pick_many [] [] e = refl
pick_many [] (x ∷ xs) e = absurd (omega arith)
pick_many (b ∷ bs) [] e = absurd (omega arith)
pick_many (true ∷ bs) (x ∷ xs) e = let h = pick_many bs xs (omega arith) in omega arith
pick_many (false ∷ bs) (x ∷ xs) e = let h = pick_many bs xs (omega arith) in omega arith

-- none of the items
abbrev pub AreNone : List Bool → Type 0
AreNone [] = Unit {0}
AreNone (b ∷ bs) = (b ≡ false) × AreNone bs

pub none_both : (bs cs : List Bool) → AreNone bs → AreNone cs → AreNone (bs ++ cs)
none_both [] cs h k = k
none_both (b ∷ bs) cs h k = (h.0, none_both bs cs h.1 k)

pub pick_none : {A : Type 0} (bs : List Bool) (xs : List A) → AreNone bs → pick bs xs ≡ []
pick_none [] xs h = refl
pick_none (b ∷ bs) [] h = refl
pick_none (true ∷ bs) (x ∷ xs) h = absurd (cc)
pick_none (false ∷ bs) (x ∷ xs) h = pick_none bs xs h.1

pub trues_none : (bs : List Bool) → AreNone bs → trues bs ≡ 0
trues_none [] h = refl
trues_none (true ∷ bs) h = absurd (cc)
trues_none (false ∷ bs) h = let e = trues_none bs h.1 in omega arith

-- flags as a test of numbers
pub filter_picks : {A : Type 0} (test : ℕ → Bool) (f : ℕ → A) (bs : List Bool) (xs : List A) (i : ℕ) → length bs ≡ length xs → Along (λ k b. test k ≡ b) i bs → Along (λ k x. f k ≡ x) i xs
    → map f (filter test (range_with_len i (length bs))) ≡ pick bs xs
filter_picks test f [] [] i e h g = refl
filter_picks test f [] (x ∷ xs) i e h g = absurd (omega arith)
filter_picks test f (b ∷ bs) [] i e h g = absurd (omega arith)
filter_picks {A} test f (b ∷ bs) (x ∷ xs) i e h g = by b h.0 (filter_picks test f bs xs (i + 1) (omega arith) h.1 g.1)
  where
    by : (b : Bool) → test i ≡ b → map f (filter test (range_with_len (i + 1) (length bs))) ≡ pick bs xs → map f (filter test (range_with_len i (suc (length bs)))) ≡ pick (b ∷ bs) (x ∷ xs)
    by true q rest = ap (λ (c : Bool). map f (if c then i ∷ filter test (range_with_len (i + 1) (length bs)) else filter test (range_with_len (i + 1) (length bs)))) q ∙ (λ j. g.0 j ∷ rest j)
    by false q rest = ap (λ (c : Bool). map f (if c then i ∷ filter test (range_with_len (i + 1) (length bs)) else filter test (range_with_len (i + 1) (length bs)))) q ∙ rest
