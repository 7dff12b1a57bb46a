-- What is made of each number from one on.
use Rattle.std.proofs.Common.{◌≡◌, ℕ, zero, suc, ◌+◌, ◌-◌, ◌<◌, ◌≤◌, List, [], ◌∷◌, ◌++◌, length, map, get_or, Some, refl, sym, ap, ◌∙◌, arith}
use Rattle.std.specs.Prelude.{slice_get}
use Rattle.std.specs.List.{range_with_len}
use Rattle.std.proofs.lemmas.List.FromFn.{get_or-map-range_with_len, get_or-range_with_len, length-map-range_with_len, length-range_with_len, map-range_with_len_more}
use Rattle.par_passes.specs.Passes.{Gives}

range_split : (a m n : ℕ) → range_with_len a (m + n) ≡ range_with_len a m ++ range_with_len (a + m) n
range_split a zero n = ap (range_with_len a) (let e : 0 + n ≡ n = omega arith in e) ∙ ap (λ (z : ℕ). range_with_len z n) (let e : a ≡ a + 0 = omega arith in e)
range_split a (suc m) n =
    ap (λ (z : ℕ). range_with_len a z) (let e : suc m + n ≡ suc (m + n) = omega arith in e)
    ∙ ap (λ l. a ∷ l) (range_split (a + 1) m n ∙ ap (λ (z : ℕ). range_with_len (a + 1) m ++ range_with_len z n) (let e : a + 1 + m ≡ a + suc m = omega arith in e))

-- the numbers from a up to b, and from there up to c
pub ranges_join : (a b c : ℕ) → a ≤ b → b ≤ c → range_with_len a (b - a) ++ range_with_len b (c - b) ≡ range_with_len a (c - a)
ranges_join a b c h l =
    ap (λ (z : ℕ). range_with_len a (b - a) ++ range_with_len z (c - b)) (let e : b ≡ a + (b - a) = omega arith in e)
    ∙ sym (range_split a (b - a) (c - b))
    ∙ ap (range_with_len a) (let e : b - a + (c - b) ≡ c - a = omega arith in e)

-- a list is known by its values
pub made_from : {X : Type 0} (f : ℕ → X) (d : X) (a : ℕ) (xs : List X) → ((k : ℕ) → k < length xs → get_or xs k d ≡ f (a + k)) → xs ≡ map f (range_with_len a (length xs))
made_from f d a [] h = refl
made_from f d a (x ∷ xs) h =
    let here : x ≡ f a = h 0 (omega arith) ∙ ap f (let e : a + 0 ≡ a = omega arith in e) in
    let rest = made_from f d (a + 1) xs (λ k l. h (suc k) (omega arith) ∙ ap f (let e : a + suc k ≡ a + 1 + k = omega arith in e)) in
    λ i. here i ∷ rest i

pub map_next : {X : Type 0} (f : ℕ → X) (n : ℕ) → map f (range_with_len 0 (n + 1)) ≡ map f (range_with_len 0 n) ++ f n ∷ []
map_next f n = map-range_with_len_more f 0 n n (omega arith)

pub value_at : {X : Type 0} (f : ℕ → X) (d : X) (n : ℕ) (xs : List X) (k : ℕ) → xs ≡ map f (range_with_len 0 n) → k < n → get_or xs k d ≡ f k
value_at f d n xs k e h = ap (λ l. get_or l k d) e ∙ get_or-map-range_with_len f 0 n k k d h (omega arith)

pub many_of : {X : Type 0} (f : ℕ → X) (n : ℕ) (xs : List X) → xs ≡ map f (range_with_len 0 n) → length xs ≡ n
many_of f n xs e = ap length e ∙ length-map-range_with_len f 0 n

pub in_range : (n k d : ℕ) → k < length (range_with_len 0 n) → get_or (range_with_len 0 n) k d < n
in_range n k d h =
    let e = length-range_with_len 0 n in
    let is : get_or (range_with_len 0 n) k d ≡ 0 + k = get_or-range_with_len 0 n k d (omega arith) in
    omega arith

-- ---- items that are taken one after the other
stands : {X : Type 0} (ys : List X) (o : X) (rest : List X) → slice_get (ys ++ o ∷ rest) (length ys) ≡ Some o
stands [] o rest = refl
stands (y ∷ ys) o rest = stands ys o rest

pub next_stands : {X : Type 0} (all ys : List X) (o : X) (rest : List X) → ys ++ o ∷ rest ≡ all → slice_get all (length ys) ≡ Some o
next_stands all ys o rest is = ap (λ l. slice_get l (length ys)) (sym is) ∙ stands ys o rest

-- ---- what calls give, by their numbers
range_get : (a n k : ℕ) → k < n → slice_get (range_with_len a n) k ≡ Some (a + k)
range_get a zero k h = absurd (omega arith)
range_get a (suc n) zero h = ap Some (let e : a ≡ a + 0 = omega arith in e)
range_get a (suc n) (suc k) h = range_get (a + 1) n k (omega arith) ∙ ap Some (let e : a + 1 + k ≡ a + suc k = omega arith in e)

some_less : {X : Type 0} (xs : List X) (k : ℕ) (y : X) → slice_get xs k ≡ Some y → k < length xs
some_less [] k y h = absurd (cc)
some_less (x ∷ xs) zero y h = omega arith
some_less (x ∷ xs) (suc k) y h = let l = some_less xs k y h in omega arith

module _ {U : Type 0} (post : ℕ → U → Type 0) (n : ℕ) (out : List U) (gives : Gives post (range_with_len 0 n) out) where
  pub given_many : length out ≡ n
  given_many = gives.as_many ∙ length-range_with_len 0 n

  pub given_at : (k : ℕ) (y : U) → slice_get out k ≡ Some y → post k y
  given_at k y h =
      let l = some_less out k y h in
      let m = given_many in
      gives.each k k y (range_get 0 n k (omega arith) ∙ ap Some (let e : 0 + k ≡ k = omega arith in e)) h
