-- The least key of a list is the least of its chunks' least keys.
use Rattle.std.proofs.Common.{◌≡◌, ℕ, zero, suc, ◌+◌, ◌*◌, ◌<◌, ◌≤◌, List, [], ◌∷◌, ◌++◌, length, slice_index_or, take, map, fold, min, sym, ap, ◌∙◌, refl, subst, arith, suc-mul, take-add, ⊎_elim}
use Rattle.std.proofs.lemmas.Bool.{cases_lt}
use Rattle.std.proofs.lemmas.List.{ext_get_or, take_all}
use Rattle.std.specs.List.{range_with_len}
use Rattle.std.proofs.lemmas.List.FromFn.{get_or-map-range_with_len, length-map-range_with_len, map-range_with_len_more}
use Rattle.std.proofs.lemmas.List.Sums.{fold-append}
use mathlib.Core.Logic.{dite}
use native.Mathlib.Decide.{ℕ_discrete}
use Rattle.chunk_seats.specs.Chunks.{chunk_of, chunk_count}
use Rattle.chunk_seats.specs.Tallies.{times, one, OnceBelow}
use Rattle.chunk_seats.specs.Offers.{IsLeast}
use Rattle.chunk_seats.specs.Laws.Totals.{one_same, one_other}
use Rattle.chunk_seats.specs.Laws.Counted.{chunks_all}
use Rattle.par_passes.specs.Least.{least_key}

abbrev top : ℕ
top = 18446744073709551615

-- a start that is at most 2 ^ 64 - 1
least_from : (a : ℕ) (xs : List ℕ) → a ≤ top → fold min a xs ≡ min a (least_key xs)
least_from a [] low = omega arith
least_from a (x ∷ xs) low =
    let here : fold min (min a x) xs ≡ min (min a x) (least_key xs) = least_from (min a x) xs (omega arith) in
    let there : fold min (min top x) xs ≡ min (min top x) (least_key xs) = least_from (min top x) xs (omega arith) in
    let n : ℕ = least_key xs in
    let joined : min (min a x) n ≡ min a (min (min top x) n) = omega arith in
    here ∙ (joined ∙ sym (ap (min a) there))

least_low : (xs : List ℕ) → least_key xs ≤ top
least_low [] = omega arith
least_low (x ∷ xs) =
    let there : fold min (min top x) xs ≡ min (min top x) (least_key xs) = least_from (min top x) xs (omega arith) in
    omega (arith, there)

least_both : (xs ys : List ℕ) → least_key (xs ++ ys) ≡ min (least_key xs) (least_key ys)
least_both xs ys = fold-append min top xs ys ∙ least_from (least_key xs) ys (least_low xs)

-- one number more
pub least_more : (code : ℕ → ℕ) (from i least key : ℕ) → least ≡ least_key (map code (range_with_len from i)) → key ≡ code (from + i) → min least key ≡ least_key (map code (range_with_len from (i + 1)))
least_more code from i least key so_far is =
    (λ j. min (so_far j) (is j)) ∙ sym (ap least_key (map-range_with_len_more code from i (from + i) refl) ∙ fold-append min top (map code (range_with_len from i)) (code (from + i) ∷ []))

-- the keys at the places of a list are the list
pub keys_by_place : (keys : List ℕ) → map (λ k. slice_index_or keys k 0) (range_with_len 0 (length keys)) ≡ keys
keys_by_place keys =
    let at : ℕ → ℕ = λ k. slice_index_or keys k 0 in
    let n : length (map at (range_with_len 0 (length keys))) ≡ length keys = length-map-range_with_len at 0 (length keys) in
    ext_get_or 0 (map at (range_with_len 0 (length keys))) keys n
    (λ i less. get_or-map-range_with_len at 0 (length keys) i i 0 (omega (arith, n)) (omega arith))

-- how often what h gives of a number stands in a list
times_image : (h : ℕ → ℕ) (c : ℕ) (xs : List ℕ) → 0 < times c xs → 0 < times (h c) (map h xs)
times_image h c [] some = absurd (omega arith)
times_image h c (x ∷ xs) some = dite (ℕ_discrete x c)
    (λ e. let here : one (h c) (h x) ≡ 1 = ap (λ (n : ℕ). one (h c) (h n)) e ∙ one_same (h c) in omega arith)
    (λ ne. let here : one c x ≡ 0 = one_other c x ne in let rest : 0 < times (h c) (map h xs) = times_image h c xs (omega arith) in omega arith)

times_from : (h : ℕ → ℕ) (m : ℕ) (xs : List ℕ) → 0 < times m (map h xs) → (c : ℕ) × (0 < times c xs) × (h c ≡ m)
times_from h m [] some = absurd (omega arith)
times_from h m (x ∷ xs) some = dite (ℕ_discrete (h x) m)
    (λ e. let here : one x x ≡ 1 = one_same x in (x, omega arith, e))
    (λ ne.
    let here : one m (h x) ≡ 0 = one_other m (h x) ne in
    let t = times_from h m xs (omega arith) in
    (t.0, omega (arith, t.1), t.2))

not_under : (m x : ℕ) → (x < m → ⊥) → m ≤ x
not_under m x never = ⊎_elim (λ (less : x < m). absurd (never less)) (λ (le : m ≤ x). le) (cases_lt x m)

not_over : (c k : ℕ) → (k ≤ c → ⊥) → c < k
not_over c k never = ⊎_elim (λ (less : c < k). less) (λ (le : k ≤ c). absurd (never le)) (cases_lt c k)

module _ (size : ℕ) (keys : List ℕ) where
  abbrev of_chunk : ℕ → ℕ
  of_chunk c = least_key (chunk_of size keys c)

  abbrev so_far : ℕ → ℕ
  so_far c = least_key (take (c * size) keys)

  next_chunk : (c : ℕ) → so_far (suc c) ≡ min (so_far c) (of_chunk c)
  next_chunk c =
      let step : suc c * size ≡ c * size + size = suc-mul c size in
      ap (λ (n : ℕ). least_key (take n keys)) step ∙ (ap least_key (take-add (c * size) size keys) ∙ least_both (take (c * size) keys) (chunk_of size keys c))

  lower : (m k : ℕ) → m ≤ top → ((c : ℕ) → c < k → m ≤ of_chunk c) → m ≤ so_far k
  lower m zero low each = let n : 0 ≡ 0 * size = omega arith in subst (λ (n : ℕ). m ≤ least_key (take n keys)) n low
  lower m (suc k) low each =
      let before : m ≤ so_far k = lower m k low (λ c h. each c (omega arith)) in
      let here : m ≤ of_chunk k = each k (omega arith) in
      omega (arith, next_chunk k)

  upper : (k c : ℕ) → c < k → so_far k ≤ of_chunk c
  upper zero c near = absurd (omega arith)
  upper (suc k) c near = dite (ℕ_discrete c k)
      (λ e. let here : of_chunk c ≡ of_chunk k = ap of_chunk e in omega (arith, next_chunk k))
      (λ ne. let before : so_far k ≤ of_chunk c = upper k c (omega arith) in omega (arith, next_chunk k))

  pub least_is : 0 < size → (count : ℕ) → count ≡ chunk_count size (length keys) → (claimed : List ℕ) → OnceBelow count (λ n. times n claimed) → (m : ℕ) → m ≤ top → IsLeast (map of_chunk claimed) m → m ≡ least_key keys
  least_is pos count is claimed once m low least =
      let all : length keys ≤ chunk_count size (length keys) * size = chunks_all (length keys) size pos in
      let more : length keys ≤ count * size = subst (λ (n : ℕ). length keys ≤ n * size) (sym is) all in
      let whole : so_far count ≡ least_key keys = ap least_key (take_all (count * size) keys more) in
      let under : m ≤ so_far count = lower m count low (λ c near.
      let some : 0 < times (of_chunk c) (map of_chunk claimed) = times_image of_chunk c claimed (omega (arith, (once c).0 near)) in
      not_under m (of_chunk c) (λ less. omega (arith, some, least.below (of_chunk c) less))) in
      let over : so_far count ≤ m = ⊎_elim
      (λ (e : m ≡ top). omega (arith, least_low (take (count * size) keys)))
      (λ (some : 0 < times m (map of_chunk claimed)).
      let t = times_from of_chunk m claimed some in
      let near : t.0 < count = not_over t.0 count (λ past. omega (arith, t.1, (once t.0).1 past)) in
      let here : so_far count ≤ of_chunk t.0 = upper count t.0 near in
      omega (arith, here, t.2))
      least.met in
      let same : m ≡ so_far count = omega arith in
      same ∙ whole
