-- One value more of a list whose values are known by their places.
use Rattle.std.proofs.Common.{◌≡◌, ℕ, zero, suc, ◌<◌, Bool, true, false, List, [], ◌∷◌, ◌++◌, length, get_or, arith}

pub each_more : (f : ℕ → ℕ) (xs : List ℕ) (x : ℕ) → ((k : ℕ) → k < length xs → get_or xs k 0 ≡ f k) → x ≡ f (length xs) → (k : ℕ) → k < length (xs ++ x ∷ []) → get_or (xs ++ x ∷ []) k 0 ≡ f k
each_more f [] x all last zero h = last
each_more f [] x all last (suc k) h = absurd (omega arith)
each_more f (y ∷ ys) x all last zero h = all 0 (omega arith)
each_more f (y ∷ ys) x all last (suc k) h = each_more (λ k. f (suc k)) ys x (λ k h. all (suc k) (omega arith)) last k (omega arith)

pub marked_more : (P : ℕ → Type 0) (xs : List Bool) (x : Bool) → ((k : ℕ) → k < length xs → get_or xs k false ≡ true → P k) → (x ≡ true → P (length xs)) → (k : ℕ) → k < length (xs ++ x ∷ []) → get_or (xs ++ x ∷ []) k false ≡ true → P k
marked_more P [] x all last zero h e = last e
marked_more P [] x all last (suc k) h e = absurd (omega arith)
marked_more P (y ∷ ys) x all last zero h e = all 0 (omega arith) e
marked_more P (y ∷ ys) x all last (suc k) h e = marked_more (λ k. P (suc k)) ys x (λ k h. all (suc k) (omega arith)) last k (omega arith) e
