-- Values that calls gave, item by item and chunk by chunk.
use Rattle.std.proofs.Common.{◌≡◌, ℕ, zero, suc, ◌+◌, ◌-◌, ◌*◌, ◌<◌, ◌≤◌, min, All, List, [], ◌∷◌, ◌++◌, length, get_or, take, drop, map, replicate, flat_map, Option, Some, slice_get, slice_set, refl, sym, ap, ◌∙◌, subst, arith}
use Rattle.std.specs.List.{range_with_len}
use Rattle.std.proofs.lemmas.List.{take_more, take_more_set, take_all}
use Rattle.std.proofs.lemmas.List.FromFn.{length-range_with_len, get_or-range_with_len}
use Rattle.chunk_seats.specs.Chunks.{chunk_of, chunk_count}
use Rattle.par_passes.specs.Passes.{GaveAt, Gives, Maps}
use Rattle.par_passes.specs.Laws.Together.{together}
use Rattle.par_passes.specs.Laws.Marking.{range_chunk, length_chunk}

module _ {T U : Type 0} (post : T → U → Type 0) where
  pub gives_none : Gives post [] []
  gives_none = record { as_many = refl; each = λ k x y at there. absurd cc }

  -- one item before the others
  pub gives_before : (x : T) (y : U) (xs : List T) (ys : List U) → post x y → Gives post xs ys → Gives post (x ∷ xs) (y ∷ ys)
  gives_before x y xs ys gave more = record { as_many = ap suc more.as_many; each = by_place }
    where
      by_place : (k : ℕ) (a : T) (b : U) → slice_get (x ∷ xs) k ≡ Some a → slice_get (y ∷ ys) k ≡ Some b → post a b
      by_place zero a b at there = let p : x ≡ a = cc in let q : y ≡ b = cc in subst (λ v. post v b) p (subst (post x) q gave)
      by_place (suc k) a b at there = more.each k a b at there

  first : (x : T) (y : U) (xs : List T) (ys : List U) → Gives post (x ∷ xs) (y ∷ ys) → post x y
  first x y xs ys all = all.each 0 x y refl refl

  rest : (x : T) (y : U) (xs : List T) (ys : List U) → Gives post (x ∷ xs) (y ∷ ys) → Gives post xs ys
  rest x y xs ys all = record { as_many = (let n = all.as_many in omega arith); each = λ k. all.each (suc k) }

  -- two lists behind one another
  pub gives_append : (xs xs' : List T) (ys ys' : List U) → Gives post xs ys → Gives post xs' ys' → Gives post (xs ++ xs') (ys ++ ys')
  gives_append [] xs' [] ys' all more = more
  gives_append [] xs' (y ∷ ys) ys' all more = let n = all.as_many in absurd (omega arith)
  gives_append (x ∷ xs) xs' [] ys' all more = let n = all.as_many in absurd (omega arith)
  gives_append (x ∷ xs) xs' (y ∷ ys) ys' all more = gives_before x y (xs ++ xs') (ys ++ ys') (first x y xs ys all) (gives_append xs xs' ys ys' (rest x y xs ys all) more)

  pub gives_next : (xs : List T) (ys : List U) (x : T) (y : U) → Gives post xs ys → post x y → Gives post (xs ++ x ∷ []) (ys ++ y ∷ [])
  gives_next xs ys x y all gave = gives_append xs (x ∷ []) ys (y ∷ []) all (gives_before x y [] [] gave gives_none)

  -- where the calls compute a function, its values
  pub gives_maps : (xs : List T) (ys : List U) → Gives post xs ys → Maps post xs ys
  gives_maps [] [] all g computes = refl
  gives_maps [] (y ∷ ys) all g computes = let n = all.as_many in absurd (omega arith)
  gives_maps (x ∷ xs) [] all g computes = let n = all.as_many in absurd (omega arith)
  gives_maps (x ∷ xs) (y ∷ ys) all g computes =
      let here : y ≡ g x = computes 0 x (omega arith) y (first x y xs ys all) in
      let more : ys ≡ map g xs = gives_maps xs ys (rest x y xs ys all) g (λ k d h. computes (suc k) d (omega arith)) in
      λ i. here i ∷ more i

  -- one value more that is put at its place
  pub put_more : (items : List T) (k : ℕ) (x : T) (out put : List U) (y : U) → k < length items → length out ≡ length items → x ≡ get_or items k x → post x y
      → put ≡ slice_set out k y → Gives post (take k items) (take k out) → Gives post (take (k + 1) items) (take (k + 1) put)
  put_more items k x out put y less wide here gave is so_far =
      let p : take k items ++ x ∷ [] ≡ take (k + 1) items = ap (λ v. take k items ++ v ∷ []) here ∙ sym (take_more items k x less) in
      let q : take k out ++ y ∷ [] ≡ take (k + 1) put = sym (ap (take (k + 1)) is ∙ take_more_set out k y (omega arith)) in
      subst (Gives post (take (k + 1) items)) q (subst (λ l. Gives post l (take k out ++ y ∷ [])) p (gives_next (take k items) (take k out) x y so_far gave))

  pub put_all : (items : List T) (k : ℕ) (out : List U) → length items ≤ k → length out ≡ length items → Gives post (take k items) (take k out) → Gives post items out
  put_all items k out all wide so_far =
      subst (Gives post items) (take_all k out (omega arith)) (subst (λ l. Gives post l (take k out)) (take_all k items all) so_far)

  -- the first of copies of the first value
  pub first_copy : (items : List T) (n : ℕ) (x : T) (y : U) (out : List U) → 0 < length items → n ≡ length items → x ≡ get_or items 0 x → post x y → out ≡ replicate n y
      → Gives post (take 1 items) (take 1 out)
  first_copy [] n x y out some many here gave is = absurd (omega arith)
  first_copy (v ∷ items) zero x y out some many here gave is = absurd (omega arith)
  first_copy (v ∷ items) (suc n) x y out some many here gave is =
      subst (λ l. Gives post (v ∷ []) (take 1 l)) (sym is) (gives_before v y [] [] (subst (λ a. post a y) here gave) gives_none)

  -- of chunk 0 the first value is known, of the others none
  pub known_first : (size : ℕ) (items : List T) (whole : List U) (c : ℕ) (part : List U) → 0 < size → part ≡ chunk_of size whole c
      → Gives post (take 1 items) (take 1 whole) → Gives post (take (1 - c) (chunk_of size items c)) (take (1 - c) part)
  known_first size items whole zero part pos is one =
      let p = front size items pos in let q = ap (take 1) is ∙ front size whole pos in
      subst (λ l. Gives post l (take 1 part)) (sym p) (subst (Gives post (take 1 items)) (sym q) one)
    where
      begins : {X : Type 0} (n : ℕ) (xs : List X) → 0 < n → take 1 (take n xs) ≡ take 1 xs
      begins zero xs h = absurd (omega arith)
      begins (suc n) [] h = refl
      begins (suc n) (x ∷ xs) h = refl

      front : {X : Type 0} (n : ℕ) (xs : List X) → 0 < n → take 1 (chunk_of n xs 0) ≡ take 1 xs
      front n xs h = let z : 0 * n ≡ 0 = omega arith in ap (λ k. take 1 (take n (drop k xs))) z ∙ begins n xs h
  known_first size items whole (suc c) part pos is one =
      let z : 1 - suc c ≡ 0 = omega arith in
      subst (λ n. Gives post (take n (chunk_of size items (suc c))) (take n part)) (sym z) gives_none

pub gives_weaker : {C V : Type 0} (P Q : C → V → Type 0) (ns : List C) (vs : List V) → ((c : C) (v : V) → P c v → Q c v) → Gives P ns vs → Gives Q ns vs
gives_weaker P Q ns vs more all = record { as_many = all.as_many; each = λ k c v at there. more c v (all.each k c v at there) }

-- what calls give for the numbers, each of which stands for some items, is what they give for all of these
pub gives_flat : {C V T U : Type 0} (post : T → U → Type 0) (part : C → List T) (inside : V → List U) (ns : List C) (vs : List V)
    → Gives (λ c v. Gives post (part c) (inside v)) ns vs → Gives post (flat_map part ns) (flat_map inside vs)
gives_flat post part inside [] [] all = gives_none post
gives_flat post part inside [] (v ∷ vs) all = let n = all.as_many in absurd (omega arith)
gives_flat post part inside (c ∷ ns) [] all = let n = all.as_many in absurd (omega arith)
gives_flat {T = T} {U = U} post part inside (c ∷ ns) (v ∷ vs) all =
    gives_append post (part c) (flat_map part ns) (inside v) (flat_map inside vs) (all.each 0 c v refl refl)
    (gives_flat post part inside ns vs (record { as_many = (let n = all.as_many in omega arith); each = λ k. all.each (suc k) }))

-- the same of all chunks
pub gives_chunks : {V T U : Type 0} (post : T → U → Type 0) (inside : V → List U) (size : ℕ) (items : List T) (count : ℕ) (vs : List V) (out : List U) → 0 < size
    → count ≡ chunk_count size (length items) → out ≡ flat_map inside vs
    → Gives (λ c v. Gives post (chunk_of size items c) (inside v)) (range_with_len 0 count) vs → Gives post items out
gives_chunks {T = T} post inside size items count vs out pos is joined all =
    subst (Gives post items) (sym joined)
    (subst (λ l. Gives post l (flat_map inside vs)) (together (λ (l : List T). l) refl (λ xs ys. refl) size items pos count is) (gives_flat post (chunk_of size items) inside (range_with_len 0 count) vs all))

-- values for numbers
module _ {U : Type 0} (post : ℕ → U → Type 0) where
  pub put_number : (from n k : ℕ) (out put : List U) (y : U) → k < n → length out ≡ n → post (from + k) y → put ≡ slice_set out k y
      → Gives post (take k (range_with_len from n)) (take k out) → Gives post (take (k + 1) (range_with_len from n)) (take (k + 1) put)
  put_number from n k out put y less wide gave is =
      let m : length (range_with_len from n) ≡ n = length-range_with_len from n in
      put_more post (range_with_len from n) k (from + k) out put y (omega (arith, m)) (wide ∙ sym m) (sym (get_or-range_with_len from n k (from + k) less)) gave is

  -- the first of copies of the value of number 0
  pub first_number : (n : ℕ) (y : U) (out : List U) → 0 < n → post 0 y → out ≡ replicate n y → Gives post (take 1 (range_with_len 0 n)) (take 1 out)
  first_number n y out some gave is =
      let m : length (range_with_len 0 n) ≡ n = length-range_with_len 0 n in
      first_copy post (range_with_len 0 n) n 0 y out (omega (arith, m)) (sym m) (sym (get_or-range_with_len 0 n 0 0 some)) gave is

-- what holds of all numbers in a range, number by number
pub number_from : (P : ℕ → Type 0) (from n k : ℕ) → k < n → All P (range_with_len from n) → P (from + k)
number_from P from n k less all = let m : length (range_with_len from n) ≡ n = length-range_with_len from n in subst P (get_or-range_with_len from n k 0 less) (all k 0 (omega (arith, m)))

pub each_number : (P : ℕ → Type 0) (n : ℕ) → All P (range_with_len 0 n) → (c : ℕ) → c < n → P c
each_number P n all c less = let z : 0 + c ≡ c = omega arith in subst P z (number_from P 0 n c less all)

pub all_numbers : (P : ℕ → Type 0) (n : ℕ) → ((k : ℕ) → k < n → P k) → All P (range_with_len 0 n)
all_numbers P n all = λ k d h.
    let m : length (range_with_len 0 n) ≡ n = length-range_with_len 0 n in
    let less : k < n = omega arith in
    subst P (sym (get_or-range_with_len 0 n k d less)) (all (0 + k) (omega arith))

-- what calls gave for the numbers of items, they gave for the items
pub gives_by_number : {T U : Type 0} (post : T → U → Type 0) (items : List T) (out : List U) → Gives (GaveAt post items) (range_with_len 0 (length items)) out → Gives post items out
gives_by_number {T} post items out all = record {
  as_many = all.as_many ∙ length-range_with_len 0 (length items);
  each = λ k x y at there.
      let z : 0 + k ≡ k = omega arith in
      let gave = all.each k k y (get_number 0 (length items) k (near items k x at) ∙ ap Some z) there in
      subst (λ v. post v y) (same (slice_get items k) gave.0 x gave.1 at) gave.2;
}
  where
    get_number : (a n k : ℕ) → k < n → slice_get (range_with_len a n) k ≡ Some (a + k)
    get_number a zero k less = absurd (omega arith)
    get_number a (suc n) zero less = let z : a ≡ a + 0 = omega arith in ap Some z
    get_number a (suc n) (suc k) less = let z : a + 1 + k ≡ a + suc k = omega arith in get_number (a + 1) n k (omega arith) ∙ ap Some z

    near : (xs : List T) (k : ℕ) (x : T) → slice_get xs k ≡ Some x → k < length xs
    near [] k x at = absurd cc
    near (y ∷ xs) zero x at = omega arith
    near (y ∷ xs) (suc k) x at = let h = near xs k x at in omega arith

    same : (o : Option T) (a b : T) → o ≡ Some a → o ≡ Some b → a ≡ b
    same o a b p q = cc

-- a chunk of the numbers below n, by where it begins and how many it has
pub numbers_of_chunk : (size n c from m : ℕ) → from ≡ min (c * size) n → length (chunk_of size (range_with_len 0 n) c) ≡ m → chunk_of size (range_with_len 0 n) c ≡ range_with_len from m
numbers_of_chunk size n c from m begins wide =
    range_chunk size n c from begins ∙ ap (range_with_len from) (sym (ap (λ k. min size (k - c * size)) (length-range_with_len 0 n)) ∙ (sym (length_chunk size (range_with_len 0 n) c) ∙ wide))

-- the same by how many numbers are left from where it begins
pub numbers_in_chunk : (size n c from count : ℕ) → from ≡ min (c * size) n → count ≡ min (n - from) size → chunk_of size (range_with_len 0 n) c ≡ range_with_len from count
numbers_in_chunk size n c from count begins many =
    let m : min size (n - c * size) ≡ count = omega (arith, begins, many) in
    range_chunk size n c from begins ∙ ap (range_with_len from) m
