-- What a text begins with: a run of bytes that pass a test, with a byte that doesn't behind it.
use Rattle.std.proofs.Common.{◌≡◌, ℕ, ◌+◌, ◌<◌, List, [], ◌∷◌, ◌++◌, length, take, drop, Bool, true, false, ◌&&◌, refl, ap, ◌∙◌, arith}
use Rattle.std.proofs.lemmas.Bool.Decides.{nat_tests}
use Rattle.std.specs.Prelude.{nat_lt}
use Rattle.std.specs.List.{list_all, prefix_len}
use Rattle.std.proofs.Math.Seq.{take-append_seam, drop-append_seam}

pub below : (m n : ℕ) → m < n → nat_lt m n ≡ true
below m n h = grind (arith, nat_tests)

both : (a b : Bool) → (a && b) ≡ true → (a ≡ true) × (b ≡ true)
both true true h = (refl, refl)
both true false h = absurd (cc)
both false b h = absurd (cc)

pub all_head : (p : ℕ → Bool) (x : ℕ) (xs : List ℕ) → list_all p (x ∷ xs) ≡ true → p x ≡ true
all_head p x xs h = (both (p x) (list_all p xs) h).0

pub all_tail : (p : ℕ → Bool) (x : ℕ) (xs : List ℕ) → list_all p (x ∷ xs) ≡ true → list_all p xs ≡ true
all_tail p x xs h = (both (p x) (list_all p xs) h).1

pub all_cons : (p : ℕ → Bool) (x : ℕ) (xs : List ℕ) → p x ≡ true → list_all p xs ≡ true → list_all p (x ∷ xs) ≡ true
all_cons p x xs h k = rw (h, k) refl

pub all_append : (p : ℕ → Bool) (xs ys : List ℕ) → list_all p xs ≡ true → list_all p ys ≡ true → list_all p (xs ++ ys) ≡ true
all_append p [] ys h k = k
all_append p (x ∷ xs) ys h k = all_cons p x (xs ++ ys) (all_head p x xs h) (all_append p xs ys (all_tail p x xs h) k)

pub all_weaker : (p q : ℕ → Bool) → ((x : ℕ) → p x ≡ true → q x ≡ true) → (xs : List ℕ) → list_all p xs ≡ true → list_all q xs ≡ true
all_weaker p q w [] h = refl
all_weaker p q w (x ∷ xs) h = all_cons q x xs (w x (all_head p x xs h)) (all_weaker p q w xs (all_tail p x xs h))

pub run_len : (p : ℕ → Bool) (xs ys : List ℕ) → list_all p xs ≡ true → prefix_len p ys ≡ 0 → prefix_len p (xs ++ ys) ≡ length xs
run_len p [] ys h k = k
run_len p (x ∷ xs) ys h k = rw (all_head p x xs h) (ap (λ n. 1 + n) (run_len p xs ys (all_tail p x xs h) k) ∙ omega arith)

pub run_is : (p : ℕ → Bool) (xs ys : List ℕ) → list_all p xs ≡ true → prefix_len p ys ≡ 0 → take (prefix_len p (xs ++ ys)) (xs ++ ys) ≡ xs
run_is p xs ys h k = ap (λ n. take n (xs ++ ys)) (run_len p xs ys h k) ∙ take-append_seam xs ys

pub behind_run : (p : ℕ → Bool) (xs ys : List ℕ) → list_all p xs ≡ true → prefix_len p ys ≡ 0 → drop (prefix_len p (xs ++ ys)) (xs ++ ys) ≡ ys
behind_run p xs ys h k = ap (λ n. drop n (xs ++ ys)) (run_len p xs ys h k) ∙ drop-append_seam xs ys
