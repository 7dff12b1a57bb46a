-- The lesser of each two neighbours, and a last value without a neighbour, are the minima of the pairs.
use Rattle.std.proofs.Common.{◌≡◌, ℕ, zero, suc, ◌+◌, ◌-◌, ◌*◌, ◌/◌, ◌%◌, ◌<◌, ◌≤◌, ◌⊎◌, inl, inr, Bool, true, false, cond, List, [], ◌++◌, length, map, drop, get_or, ℤ, pos, ◌≤ℤ◌, refl, ap, ap₂, ◌∙◌, subst, arith, length-append, length-drop, get_or-take, get_or-drop}
use Rattle.std.specs.Prelude.{int_lt}
use Rattle.std.specs.Int.{int_min}
use Rattle.std.specs.Simd.{first_chunks}
use Rattle.std.proofs.lemmas.Int.{ints, int_min_is}
use Rattle.std.proofs.lemmas.Bool.{cases_lt}
use Rattle.std.proofs.lemmas.List.{length-map, get_or-map, get_or_append_left, get_or-append_right}
use Rattle.near_smaller.specs.Nearest.{value_at}
use Rattle.near_smaller.specs.Levels.{HalvedTo}

length-first_chunks : {X : Type 0} (n k : ℕ) (xs : List X) → length (first_chunks n k xs) ≡ k
length-first_chunks n zero xs = refl
length-first_chunks n (suc k) xs = ap (λ (j : ℕ). suc j) (length-first_chunks n k (drop n xs))

-- the items of a pair
pair_at : (m : ℕ) (xs : List ℤ) (b i : ℕ) → b < m → i < 2 → get_or (get_or (first_chunks 2 m xs) b []) i (pos 0) ≡ get_or xs (2 * b + i) (pos 0)
pair_at zero xs b i lt small = absurd (omega arith)
pair_at (suc m) xs zero i lt small = get_or-take 2 xs i (pos 0) small ∙ ap (λ (j : ℕ). get_or xs j (pos 0)) (omega arith)
pair_at (suc m) xs (suc b) i lt small =
    pair_at m (drop 2 xs) b i (omega arith) small
    ∙ (get_or-drop 2 xs (2 * b + i) (pos 0)
    ∙ ap (λ (j : ℕ). get_or xs j (pos 0)) (let e : 2 + (2 * b + i) ≡ 2 * suc b + i = omega arith in e))

abbrev pub lesser : List ℤ → ℤ
lesser p = int_min (get_or p 0 (pos 0)) (get_or p 1 (pos 0))

min_is_one : (a b : ℤ) → (int_min a b ≡ a) ⊎ (int_min a b ≡ b)
min_is_one a b = by (int_lt b a)
  where
    by : (t : Bool) → (cond t b a ≡ a) ⊎ (cond t b a ≡ b)
    by true = inr refl
    by false = inl refl

module _ (xs out : List ℤ) (is : out ≡ map lesser (first_chunks 2 (length xs / 2) xs) ++ drop (length xs / 2 * 2) xs) where
  length_pairs : length (map lesser (first_chunks 2 (length xs / 2) xs)) ≡ length xs / 2
  length_pairs = length-map (first_chunks 2 (length xs / 2) xs) lesser ∙ length-first_chunks 2 (length xs / 2) xs

  size : length out ≡ (length xs + 1) / 2
  size =
      let a = ap length is in
      let b = length-append (map lesser (first_chunks 2 (length xs / 2) xs)) (drop (length xs / 2 * 2) xs) in
      let c = length-drop (length xs / 2 * 2) xs in
      let d = length_pairs in
      omega arith

  -- the minimum of a pair
  at_pair : (b : ℕ) → b < length xs / 2 → value_at out b ≡ int_min (value_at xs (2 * b)) (value_at xs (2 * b + 1))
  at_pair b lt =
      let chunks = first_chunks 2 (length xs / 2) xs in
      let many : b < length (map lesser chunks) = (let d = length_pairs in omega arith) in
      let some : b < length chunks = (let d = length-first_chunks 2 (length xs / 2) xs in omega arith) in
      let zero_is : 2 * b + 0 ≡ 2 * b = omega arith in
      ap (λ (l : List ℤ). get_or l b (pos 0)) is
      ∙ (get_or_append_left (map lesser chunks) (drop (length xs / 2 * 2) xs) (pos 0) b many
      ∙ (get_or-map lesser chunks b [] (pos 0) some
      ∙ ap₂ int_min (pair_at (length xs / 2) xs b 0 lt (omega arith) ∙ ap (λ (j : ℕ). get_or xs j (pos 0)) zero_is) (pair_at (length xs / 2) xs b 1 lt (omega arith))))

  -- the last value
  at_last : (b : ℕ) → b ≡ length xs / 2 → value_at out b ≡ value_at xs (2 * b)
  at_last b last =
      let front = map lesser (first_chunks 2 (length xs / 2) xs) in
      let d = length_pairs in
      let e : length xs / 2 * 2 + (b - length xs / 2) ≡ 2 * b = omega arith in
      ap (λ (l : List ℤ). get_or l b (pos 0)) is
      ∙ (get_or-append_right front (drop (length xs / 2 * 2) xs) (length xs / 2) b (pos 0) length_pairs (omega arith)
      ∙ (get_or-drop (length xs / 2 * 2) xs (b - length xs / 2) (pos 0)
      ∙ ap (λ (j : ℕ). get_or xs j (pos 0)) e))

  below_pair : (k : ℕ) → k < length xs → ((k / 2) < (length xs / 2)) ⊎ ((length xs / 2) ≤ (k / 2)) → value_at out (k / 2) ≤ℤ value_at xs k
  below_pair k within (inl lt) = by (cases_lt 0 (k % 2))
    where
      least : (value_at out (k / 2) ≤ℤ value_at xs (2 * (k / 2))) × (value_at out (k / 2) ≤ℤ value_at xs (2 * (k / 2) + 1))
      least = let e = at_pair (k / 2) lt in let m = int_min_is (value_at xs (2 * (k / 2))) (value_at xs (2 * (k / 2) + 1)) in (omega (arith, ints), omega (arith, ints))

      by : (0 < k % 2) ⊎ (k % 2 ≤ 0) → value_at out (k / 2) ≤ℤ value_at xs k
      by (inl odd) = let e : 2 * (k / 2) + 1 ≡ k = omega arith in subst (λ (j : ℕ). value_at out (k / 2) ≤ℤ value_at xs j) e least.1
      by (inr even) = let e : 2 * (k / 2) ≡ k = omega arith in subst (λ (j : ℕ). value_at out (k / 2) ≤ℤ value_at xs j) e least.0
  below_pair k within (inr le) =
      let e : k / 2 ≡ length xs / 2 = omega arith in
      let last : 2 * (k / 2) ≡ k = omega arith in
      let same = at_last (k / 2) e in
      subst (λ (j : ℕ). value_at out (k / 2) ≤ℤ value_at xs j) last (omega (arith, ints))

  one_of_pair : (b : ℕ) → b < length out → (b < (length xs / 2)) ⊎ ((length xs / 2) ≤ b) → (value_at out b ≡ value_at xs (2 * b)) ⊎ ((2 * b + 1 < length xs) × (value_at out b ≡ value_at xs (2 * b + 1)))
  one_of_pair b lt (inl pair) = by (min_is_one (value_at xs (2 * b)) (value_at xs (2 * b + 1)))
    where
      by : (int_min (value_at xs (2 * b)) (value_at xs (2 * b + 1)) ≡ value_at xs (2 * b)) ⊎ (int_min (value_at xs (2 * b)) (value_at xs (2 * b + 1)) ≡ value_at xs (2 * b + 1)) → (value_at out b ≡ value_at xs (2 * b)) ⊎ ((2 * b + 1 < length xs) × (value_at out b ≡ value_at xs (2 * b + 1)))
      by (inl e) = inl (at_pair b pair ∙ e)
      by (inr e) = inr (omega arith, at_pair b pair ∙ e)
  one_of_pair b lt (inr last) = inl (at_last b (let s = size in omega arith))

  pub halved_to : HalvedTo xs out
  halved_to = record {
    size = size;
    below = λ k within. below_pair k within (cases_lt (k / 2) (length xs / 2));
    is_one = λ b lt. one_of_pair b lt (cases_lt b (length xs / 2));
  }

-- the same, as the code puts it together
pub halved_out : (xs : List ℤ) (pairs : List (List ℤ)) (made kept out rest : List ℤ) → pairs ≡ first_chunks 2 (length xs / 2) xs → rest ≡ drop (length xs / 2 * 2) xs → made ≡ map lesser pairs → kept ≡ made → out ≡ kept ++ rest → HalvedTo xs out
halved_out xs pairs made kept out rest pairs_is rest_is made_is kept_is out_is = halved_to xs out (out_is ∙ ap₂ (λ (u v : List ℤ). u ++ v) (kept_is ∙ (made_is ∙ ap (map lesser) pairs_is)) rest_is)
