-- What is made of each number below a count.
use Rattle.std.proofs.Common.{◌≡◌, ℕ, zero, suc, ◌+◌, ◌<◌, ◌≤◌, ◌⊎◌, inl, inr, subst, List, [], ◌∷◌, ◌++◌, length, map, get_or, Result, Ok, Err, Some, refl, sym, ap, ◌∙◌, arith}
use Rattle.std.specs.Prelude.{flat_map, slice_get, IfOk}
use Rattle.std.specs.List.{range_with_len}
use Rattle.std.proofs.lemmas.List.FromFn.{get_or-map-range_with_len, get_or-range_with_len, length-map-range_with_len, length-range_with_len, map-range_with_len_more}
use Rattle.std.proofs.lemmas.Bool.{cases_lt}
use Rattle.std.proofs.lemmas.List.{get_or-map, length-map}
use Rattle.scan_lookback.specs.Laws.Lists.{flat_map_more}
use Rattle.par_passes.specs.Passes.{Gives}
use Rattle.par_passes.specs.Laws.Giving.{gives_maps}

pub flat_next : {X : Type 0} (f : ℕ → List X) (c : ℕ) → flat_map f (range_with_len 0 (suc c)) ≡ flat_map f (range_with_len 0 c) ++ f c
flat_next f c =
    ap (λ (n : ℕ). flat_map f (range_with_len 0 n)) (let e : suc c ≡ c + 1 = omega arith in e)
    ∙ flat_map_more f 0 c
    ∙ ap (λ (m : ℕ). flat_map f (range_with_len 0 c) ++ f m) (let e : 0 + c ≡ c = omega arith in e)

pub map_next : {X : Type 0} (f : ℕ → X) (n : ℕ) → map f (range_with_len 0 (suc n)) ≡ map f (range_with_len 0 n) ++ f n ∷ []
map_next f n = ap (λ (m : ℕ). map f (range_with_len 0 m)) (let e : suc n ≡ n + 1 = omega arith in e) ∙ map-range_with_len_more f 0 n n (omega arith)

pub value_at : {X : Type 0} (f : ℕ → X) (d : X) (n : ℕ) (xs : List X) (k : ℕ) → xs ≡ map f (range_with_len 0 n) → k < n → get_or xs k d ≡ f k
value_at f d n xs k e h = ap (λ l. get_or l k d) e ∙ get_or-map-range_with_len f 0 n k k d h (omega arith)

pub many_of : {X : Type 0} (f : ℕ → X) (n : ℕ) (xs : List X) → xs ≡ map f (range_with_len 0 n) → length xs ≡ n
many_of f n xs e = ap length e ∙ length-map-range_with_len f 0 n

range_get : (a n k : ℕ) → k < n → slice_get (range_with_len a n) k ≡ Some (a + k)
range_get a zero k h = absurd (omega arith)
range_get a (suc n) zero h = ap Some (let e : a ≡ a + 0 = omega arith in e)
range_get a (suc n) (suc k) h = range_get (a + 1) n k (omega arith) ∙ ap Some (let e : a + 1 + k ≡ a + suc k = omega arith in e)

some_less : {X : Type 0} (xs : List X) (k : ℕ) (y : X) → slice_get xs k ≡ Some y → k < length xs
some_less [] k y h = absurd (cc)
some_less (x ∷ xs) zero y h = omega arith
some_less (x ∷ xs) (suc k) y h = let l = some_less xs k y h in omega arith

pub in_range : (n k d : ℕ) → k < length (range_with_len 0 n) → get_or (range_with_len 0 n) k d < n
in_range n k d h =
    let e = length-range_with_len 0 n in
    let is : get_or (range_with_len 0 n) k d ≡ k = get_or-range_with_len 0 n k d (omega arith) ∙ (let z : 0 + k ≡ k = omega arith in z) in
    omega arith

pub other_default : {X : Type 0} (xs : List X) (k : ℕ) (d e : X) → k < length xs → get_or xs k d ≡ get_or xs k e
other_default [] k d e h = absurd (omega arith)
other_default (x ∷ xs) zero d e h = refl
other_default (x ∷ xs) (suc k) d e h = other_default xs k d e (omega arith)

-- ---- a list with one more behind
at_old : {X : Type 0} (xs : List X) (x d : X) (j : ℕ) → j < length xs → get_or (xs ++ x ∷ []) j d ≡ get_or xs j d
at_old [] x d j h = absurd (omega arith)
at_old (y ∷ xs) x d zero h = refl
at_old (y ∷ xs) x d (suc j) h = at_old xs x d j (omega arith)

at_new : {X : Type 0} (xs : List X) (x d : X) → get_or (xs ++ x ∷ []) (length xs) d ≡ x
at_new [] x d = refl
at_new (y ∷ xs) x d = at_new xs x d

pub each_next : {X : Type 0} (P : ℕ → X → Type 0) (d : X) (xs ys : List X) (x : X) (k : ℕ) → length xs ≡ k → ys ≡ xs ++ x ∷ [] → ((j : ℕ) → j < k → P j (get_or xs j d)) → P k x → (j : ℕ) → j < k + 1 → P j (get_or ys j d)
each_next {X} P d xs ys x k n is before here j l = by (cases_lt j k)
  where
    by : (j < k) ⊎ (k ≤ j) → P j (get_or ys j d)
    by (inl h) = subst (P j) (sym (ap (λ zs. get_or zs j d) is ∙ at_old xs x d j (omega arith))) (before j h)
    by (inr h) =
        let e : length xs ≡ j = omega arith in
        let g : k ≡ j = omega arith in
        subst (P j) (sym (ap (λ zs. get_or zs j d) is ∙ ap (λ (i : ℕ). get_or (xs ++ x ∷ []) i d) (sym e) ∙ at_new xs x d)) (subst (λ (i : ℕ). P i x) g here)

-- a list of lists, by what they have
pub item_there : {U V : Type 0} (f : U → V) (g : ℕ → V) (vs : List U) (k : ℕ) (d : U) → map f vs ≡ map g (range_with_len 0 (length (map f vs))) → k < length vs → f (get_or vs k d) ≡ g k
item_there f g vs k d e h = sym (get_or-map f vs k d (f d) h) ∙ value_at g (f d) (length (map f vs)) (map f vs) k e (let n = length-map vs f in omega arith)

pub mapped : {U V : Type 0} (post : ℕ → U → Type 0) (f : U → V) (g : ℕ → V) → ((k : ℕ) (r : U) → post k r → f r ≡ g k) → (ns : List ℕ) (vs : List U) → Gives post ns vs → map f vs ≡ map g ns
mapped post f g h [] [] all = refl
mapped post f g h [] (v ∷ vs) all = let n = all.as_many in absurd (omega arith)
mapped post f g h (n ∷ ns) [] all = let n = all.as_many in absurd (omega arith)
mapped post f g h (n ∷ ns) (v ∷ vs) all =
    let here = h n v (all.each 0 n v refl refl) in
    let more = mapped post f g h ns vs (record { as_many = (let m = all.as_many in omega arith); each = λ k. all.each (suc k) }) in
    λ i. here i ∷ more i

module _ {U : Type 0} (post : ℕ → U → Type 0) (n : ℕ) (out : List U) (gives : Gives post (range_with_len 0 n) out) where
  pub given_many : length out ≡ n
  given_many = gives.as_many ∙ length-range_with_len 0 n

  pub given_at : (k : ℕ) (y : U) → slice_get out k ≡ Some y → post k y
  given_at k y h =
      let l = some_less out k y h in
      let m = given_many in
      gives.each k k y (range_get 0 n k (omega arith) ∙ ap Some (let e : 0 + k ≡ k = omega arith in e)) h

  pub given_map : (g : ℕ → U) → ((k : ℕ) (r : U) → post k r → r ≡ g k) → out ≡ map g (range_with_len 0 n)
  given_map g h = gives_maps post (range_with_len 0 n) out gives g (λ k d lt. h _)

  pub given_list : (g : ℕ → U) → ((k : ℕ) (r : U) → post k r → r ≡ g k) → out ≡ map g (range_with_len 0 (length out))
  given_list g h = given_map g h ∙ ap (λ (m : ℕ). map g (range_with_len 0 m)) (sym given_many)

  pub given_lists : {V : Type 0} (f : U → V) (g : ℕ → V) → ((k : ℕ) (r : U) → post k r → f r ≡ g k) → map f out ≡ map g (range_with_len 0 (length (map f out)))
  given_lists f g h = mapped post f g h (range_with_len 0 n) out gives ∙ ap (λ (m : ℕ). map g (range_with_len 0 m)) (sym (length-map out f ∙ given_many))

-- three facts on what a call gives
pub if_all : {T E : Type 0} (r : Result T E) (P Q R S : T → Type 0) → IfOk r P → IfOk r Q → IfOk r R → ((v : T) → P v → Q v → R v → S v) → IfOk r S
if_all (Ok v) P Q R S p q t h = h v p q t
if_all (Err e) P Q R S p q t h = tt
