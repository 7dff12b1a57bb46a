-- Lists that stand one behind the other, each from its start on.
use Rattle.std.proofs.Common.{◌≡◌, ℕ, zero, suc, ◌+◌, ◌-◌, ◌<◌, ◌≤◌, All, List, [], ◌∷◌, ◌++◌, length, get_or, take, flat_map, refl, sym, ap, ◌∙◌, subst, arith, length-append, lt_of_not-le}
use Rattle.std.specs.List.{range_with_len}
use Rattle.std.proofs.lemmas.List.{append-nil, ext_get_or}
use Rattle.std.proofs.lemmas.List.FromFn.{length-range_with_len, get_or-range_with_len}
use Rattle.std.proofs.lemmas.List.Concat.{flat_map-append, get_or-flat_map}
use mathlib.Core.Logic.{dite}
use native.Mathlib.Decide.{dec_le}
use Rattle.chunk_seats.specs.Tallies.{times}
use Rattle.scatter_rows.specs.Scattered.{AreDistinct}
use Rattle.scatter_rows.specs.Starts.{AreStarts, StandsAt, IsIn}
use Rattle.scatter_rows.specs.Worked.{IsReadOut}

range_next : (a n : ℕ) → range_with_len a (n + 1) ≡ range_with_len a n ++ (a + n) ∷ []
range_next a zero = let z : a ≡ a + 0 = omega arith in ap (λ (k : ℕ). k ∷ []) z
range_next a (suc n) =
    let z : a + 1 + n ≡ a + suc n = omega arith in
    let e : suc n + 1 ≡ suc (n + 1) = omega arith in
    ap (range_with_len a) e ∙ ap (λ (l : List ℕ). a ∷ l) (range_next (a + 1) n ∙ ap (λ (k : ℕ). range_with_len (a + 1) n ++ k ∷ []) z)

take_numbers : (k a n : ℕ) → k ≤ n → take k (range_with_len a n) ≡ range_with_len a k
take_numbers zero a n few = refl
take_numbers (suc k) a zero few = absurd (omega arith)
take_numbers (suc k) a (suc n) few = ap (λ (l : List ℕ). a ∷ l) (take_numbers k (a + 1) n (omega arith))

-- what holds of each of the numbers
pub each_number : (P : ℕ → Type 0) (n : ℕ) → All P (range_with_len 0 n) → (k : ℕ) → k < n → P k
each_number P n all k less =
    let wide = length-range_with_len 0 n in
    let z : 0 + k ≡ k = omega arith in
    subst P (get_or-range_with_len 0 n k 0 less ∙ z) (all k 0 (omega arith))

-- places that are all numbers below an end
module _ (places : List ℕ) (end : ℕ) (are : places ≡ range_with_len 0 end) where
  pub place_is : (i : ℕ) → i < end → (i < length places) × (get_or places i 0 ≡ i)
  place_is i near = let wide = ap length are ∙ length-range_with_len 0 end in let z : 0 + i ≡ i = omega arith in (omega arith, ap (λ l. get_or l i 0) are ∙ get_or-range_with_len 0 end i 0 near ∙ z)

  below : (i : ℕ) → i < length places → i < end
  below i near = let wide = ap length are ∙ length-range_with_len 0 end in omega arith

  pub places_inside : (i : ℕ) → i < length places → get_or places i 0 < end
  places_inside i near = let at = (place_is i (below i near)).1 in let less = below i near in omega arith

  pub places_distinct : AreDistinct places
  places_distinct i j near near' same = sym (place_is i (below i near)).1 ∙ same ∙ (place_is j (below j near')).1

  -- where all was put, the values are read out
  pub values_read : (values put out : List ℕ) → length values ≡ end → length out ≡ end → IsReadOut places values put out → ((i : ℕ) → i < end → 0 < times i put) → out ≡ values
  values_read values put out many wide read all = ext_get_or 0 out values (wide ∙ sym many) (λ i near.
      let less : i < end = omega arith in
      sym (ap (λ k. get_or out k 0) (place_is i less).1) ∙ read.placed i (all i less))

-- the value at a place of a list that stands there
pub value_at : (values xs : List ℕ) (from to i : ℕ) → StandsAt values from to xs → from ≤ i → i < to → (i - from < length xs) × (get_or values i 0 ≡ get_or xs (i - from) 0)
value_at values xs from to i stands above near =
    let ends = stands.ends in
    let at : from + (i - from) ≡ i = omega arith in
    let less : i - from < length xs = omega arith in
    (less, sym (ap (λ k. get_or values k 0) at) ∙ stands.same (i - from) less)

module _ (part : ℕ → List ℕ) where
  abbrev pub joined : ℕ → List ℕ
  joined n = flat_map part (range_with_len 0 n)

  pub joined_more : (n : ℕ) → joined (n + 1) ≡ joined n ++ part n
  joined_more n =
      let z : 0 + n ≡ n = omega arith in
      ap (flat_map part) (range_next 0 n ∙ ap (λ k. range_with_len 0 n ++ k ∷ []) z)
      ∙ flat_map-append part (range_with_len 0 n) (n ∷ [])
      ∙ ap (λ l. joined n ++ l) (append-nil (part n))

  long_more : (n : ℕ) → length (joined (n + 1)) ≡ length (joined n) + length (part n)
  long_more n = ap length (joined_more n) ∙ length-append (joined n) (part n)

  rises : (a d : ℕ) → length (joined a) ≤ length (joined (a + d))
  rises a zero = let same : a ≡ a + 0 = omega arith in let long = ap (λ n. length (joined n)) same in omega arith
  rises a (suc d) =
      let same : a + d + 1 ≡ a + suc d = omega arith in let long = ap (λ n. length (joined n)) same in
      let so_far = rises a d in let more = long_more (a + d) in omega arith

  module _ (starts : List ℕ) (are : AreStarts part starts) where
    -- what is made of a number stands between its start and the next one
    pub stands : (c : ℕ) (xs : List ℕ) → c < length starts - 1 → xs ≡ part c → StandsAt (joined (length starts - 1)) (get_or starts c 0) (get_or starts (c + 1) 0) xs
    stands c xs near is =
        let n : ℕ = length starts - 1 in
        let from = are.1 c (omega arith) in
        let to = are.1 (c + 1) (omega arith) in
        let long = long_more c in let wide = ap length is in
        let end : c + 1 + (n - (c + 1)) ≡ n = omega arith in
        let over = ap (λ k. length (joined k)) end in let rest = rises (c + 1) (n - (c + 1)) in
        record {
          ends = omega arith;
          inside = omega arith;
          same = λ k less.
              let number : get_or (range_with_len 0 n) c 0 ≡ c = (let z : 0 + c ≡ c = omega arith in get_or-range_with_len 0 n c 0 near ∙ z) in
              let count = length-range_with_len 0 n in
              let long : k < length (part (get_or (range_with_len 0 n) c 0)) = subst (λ m. k < length (part m)) (sym number) (omega arith) in
              ap (λ m. get_or (joined n) (m + k) 0) (from ∙ ap (λ l. length (flat_map part l)) (sym (take_numbers c 0 n (omega arith))))
              ∙ get_or-flat_map part (range_with_len 0 n) c k 0 0 (omega arith) long
              ∙ ap (λ m. get_or (part m) k 0) number
              ∙ ap (λ l. get_or l k 0) (sym is);
        }

    pub last_start : get_or starts (length starts - 1) 0 ≡ length (joined (length starts - 1))
    last_start = let some = are.0 in are.1 (length starts - 1) (omega arith)

    first_start : get_or starts 0 0 ≡ 0
    first_start = are.1 0 are.0

    among : (n i : ℕ) → i < get_or starts n 0 → (c : ℕ) × (c < n) × IsIn starts c i
    among zero i near = let none = first_start in absurd (omega arith)
    among (suc n) i near = dite (dec_le (get_or starts n 0) i)
        (λ behind. let next : suc n ≡ n + 1 = omega arith in (n, omega arith, record { from = behind; to = subst (λ k. i < get_or starts k 0) next near }))
        (λ before. let r = among n i (lt_of_not-le before) in let less = r.1 in (r.0, omega arith, r.2))

    -- each value stands in some part
    pub covered : (i : ℕ) → i < length (joined (length starts - 1)) → (c : ℕ) × (c < length starts - 1) × IsIn starts c i
    covered i near = among (length starts - 1) i (let last = last_start in omega arith)
