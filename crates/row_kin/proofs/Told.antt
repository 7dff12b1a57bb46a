-- What is known when all rows are done is what the definitions say.
use Rattle.std.proofs.Common.{◌≡◌, ℕ, zero, suc, ◌+◌, ◌<◌, ◌≤◌, ◌⊎◌, inl, inr, Bool, List, length, map, refl, sym, ap, ◌∙◌, subst, arith, ext_get_or}
use Rattle.std.specs.Prelude.{nat_eq, if◌then◌else◌}
use Rattle.std.specs.List.{range_with_len}
use Rattle.std.proofs.lemmas.Bool.{cases_lt}
use Rattle.std.proofs.lemmas.List.FromFn.{get_or-map-range_with_len, length-map-range_with_len}
use Rattle.ast_rows.specs.NodeRows.{low_at, lows_of}
use Rattle.row_laws.specs.Climbed.{parent_at, parents_by, count_before, place_at}
use Rattle.list_cuts.specs.Cuts.{number_at}
use Rattle.row_kin.specs.Nearest.{prev_below, behind, begins}
use Rattle.row_kin.specs.Taken.{equal_before}
use Rattle.row_kin.proofs.Answered.{parents_answered}
use Rattle.row_kin.proofs.Subtrees.{begins_are_lows, parents_many, found, none, same_count}
use Rattle.row_kin.specs.Taken.{taker, first_of, taken_by, parent_by, place_by}
use Rattle.row_kin.proofs.Looking.{eq_true, eq_false, lt_true, lt_false, taker_behind, is_first, place_root}

-- a list of numbers by its values
listed : (ns : List ℕ) (f : ℕ → ℕ) (n : ℕ) → length ns ≡ n → ((k : ℕ) → k < n → number_at ns k ≡ f k) → ns ≡ map f (range_with_len 0 n)
listed ns f n e h =
    ext_get_or 0 ns (map f (range_with_len 0 n)) (e ∙ sym (length-map-range_with_len f 0 n)) (λ k lt. h k (omega arith) ∙ sym (get_or-map-range_with_len f 0 n k k 0 (omega arith) (omega arith)))

module _ (lows : List ℕ) where
  abbrev rows : ℕ
  rows = length lows

  pub parent_there : (k : ℕ) → k < rows → parent_by lows rows k ≡ parent_at lows k
  parent_there k lt = sym (parents_answered lows k lt)

  pub parents_told : (ns : List ℕ) → length ns ≡ rows → ((k : ℕ) → k < rows → number_at ns k ≡ parent_by lows rows k) → ns ≡ parents_by lows
  parents_told ns e h = listed ns (parent_at lows) rows e (λ k lt. h k lt ∙ parent_there k lt)

  pub firsts_told : (ns : List ℕ) → length ns ≡ rows → ((k : ℕ) → k < rows → number_at ns k ≡ first_of lows k) → ns ≡ lows_of (parents_by lows)
  firsts_told ns e h = ext_get_or 0 ns (begins lows lows) (e ∙ sym (length-map-range_with_len (λ i. behind (prev_below lows i (number_at lows i))) 0 rows)) (λ k lt. h k (omega arith)) ∙ begins_are_lows lows

  pub first_there : (k : ℕ) → k < rows → first_of lows k ≡ low_at (parents_by lows) k
  first_there k lt =
      ap (λ (ns : List ℕ). number_at ns k) (begins_are_lows lows)
      ∙ (let m = parents_many lows in get_or-map-range_with_len (low_at (parents_by lows)) 0 (length (parents_by lows)) k k 0 (omega arith) (omega arith))

  test_sym : (a b : ℕ) → nat_eq a b ≡ nat_eq b a
  test_sym a b = by (cases_lt a b) (cases_lt b a)
    where
      by : (a < b) ⊎ (b ≤ a) → (b < a) ⊎ (a ≤ b) → nat_eq a b ≡ nat_eq b a
      by (inl lt) any = eq_false a b (omega arith) ∙ sym (eq_false b a (omega arith))
      by (inr ge) (inl lt) = eq_false a b (omega arith) ∙ sym (eq_false b a (omega arith))
      by (inr ge) (inr le) = eq_true a b (omega arith) ∙ sym (eq_true b a (omega arith))

  as_before : (parents : List ℕ) (q k : ℕ) → equal_before parents k q ≡ count_before q parents k
  as_before parents q zero = refl
  as_before parents q (suc k) =
      (λ i. as_before parents q k i + (if test_sym (number_at parents k) q i then 1 else 0))
      ∙ swap (count_before q parents k) (if nat_eq q (number_at parents k) then 1 else 0)
    where
      swap : (a b : ℕ) → a + b ≡ b + a
      swap a b = omega arith

  pub place_there : (k : ℕ) → k < rows → place_by lows rows k ≡ place_at (parents_by lows) k
  place_there k lt = by (cases_lt (taker lows k) rows)
    where
      by : (taker lows k < rows) ⊎ (rows ≤ taker lows k) → place_by lows rows k ≡ place_at (parents_by lows) k
      by (inl some) =
          let f = found lows k lt some in
          let b = taker_behind lows k lt in
          ap (λ (c : Bool). if c then taken_by lows (taker lows k) k else 0) (lt_true (taker lows k) rows some)
          ∙ same_count lows (taker lows k) k some (omega arith)
          ∙ as_before (parents_by lows) (taker lows k) k
          ∙ ap (λ (q : ℕ). count_before q (parents_by lows) k) (sym f)
          ∙ sym (ap (λ (c : Bool). if c then 0 else count_before (number_at (parents_by lows) k) (parents_by lows) k) (test_sym (number_at (parents_by lows) k) k ∙ eq_false k (number_at (parents_by lows) k) (omega arith)))
      by (inr over) =
          let f = none lows k lt over in
          place_root lows rows k over
          ∙ sym (ap (λ (c : Bool). if c then 0 else count_before (number_at (parents_by lows) k) (parents_by lows) k) (test_sym (number_at (parents_by lows) k) k ∙ eq_true k (number_at (parents_by lows) k) (sym f)))

  pub places_told : (ns : List ℕ) → length ns ≡ rows → ((k : ℕ) → k < rows → number_at ns k ≡ place_by lows rows k) → ns ≡ map (place_at (parents_by lows)) (range_with_len 0 rows)
  places_told ns e h = listed ns (place_at (parents_by lows)) rows e (λ k lt. h k lt ∙ place_there k lt)

  -- ---- the values of such lists
  pub parent_told : (ns : List ℕ) → ns ≡ parents_by lows → (k : ℕ) → k < rows → number_at ns k ≡ parent_by lows rows k
  parent_told ns is k lt = ap (λ (l : List ℕ). number_at l k) is ∙ get_or-map-range_with_len (parent_at lows) 0 rows k k 0 lt (omega arith) ∙ sym (parent_there k lt)

  pub first_told : (ns : List ℕ) → ns ≡ lows_of (parents_by lows) → (k : ℕ) → k < rows → number_at ns k ≡ first_of lows k
  first_told ns is k lt = ap (λ (l : List ℕ). number_at l k) (is ∙ sym (begins_are_lows lows))

  pub place_told : (ns : List ℕ) → ns ≡ map (place_at (parents_by lows)) (range_with_len 0 rows) → (k : ℕ) → k < rows → number_at ns k ≡ place_by lows rows k
  place_told ns is k lt = ap (λ (l : List ℕ). number_at l k) is ∙ get_or-map-range_with_len (place_at (parents_by lows)) 0 rows k k 0 lt (omega arith) ∙ sym (place_there k lt)

  -- no row lies behind the last one
  pub parent_within : (k : ℕ) → k < rows → parent_by lows rows k < rows
  parent_within k lt = by (cases_lt (taker lows k) rows)
    where
      by : (taker lows k < rows) ⊎ (rows ≤ taker lows k) → parent_by lows rows k < rows
      by (inl some) = subst (λ (n : ℕ). n < rows) (ap (λ (b : Bool). if b then taker lows k else k) (sym (lt_true (taker lows k) rows some))) some
      by (inr over) = subst (λ (n : ℕ). n < rows) (ap (λ (b : Bool). if b then taker lows k else k) (sym (lt_false (taker lows k) rows over))) lt

  pub first_within : (k : ℕ) → k < rows → first_of lows k < rows
  first_within k lt = let h = (is_first lows k lt).high in omega arith
