-- What a stretch knows by itself, in the words of all rows.
use Rattle.std.proofs.Common.{◌≡◌, ℕ, zero, suc, ◌+◌, ◌-◌, ◌<◌, ◌≤◌, ◌⊎◌, inl, inr, Bool, List, length, map, max, get_or, sym, ap, ◌∙◌, subst, arith, ext_get_or}
use Rattle.std.specs.Prelude.{nat_eq, if◌then◌else◌}
use Rattle.std.proofs.lemmas.Bool.{cases_lt}
use Rattle.std.proofs.lemmas.Bool.Decides.{nat_tests}
use Rattle.std.proofs.lemmas.List.{get_or-map, length-map}
use Rattle.std.proofs.lemmas.List.FromFn.{get_or-map-range_with_len, length-map-range_with_len}
use Rattle.list_cuts.specs.Cuts.{number_at}
use Rattle.row_kin.specs.Searched.{IsNextUntil, IsBeginFrom}
use Rattle.row_kin.specs.declared.stretches.Ties.{Ties}
use Rattle.row_kin.specs.Taken.{taker, first_of, taken_by, parent_by, place_by}
use Rattle.row_kin.specs.Alone.{ties_of, ties_from}
use Rattle.row_kin.specs.Settles.{DoneAlone}
use Rattle.row_kin.proofs.Looking.{eq_false, lt_true, lt_false, is_taker, is_first}
use Rattle.row_kin.proofs.Told.{parent_there, first_there, place_there}

same_test : (from a i : ℕ) → nat_eq a i ≡ nat_eq (from + a) (from + i)
same_test from a i = by (cases_lt a i) (cases_lt i a)
  where
    by : (a < i) ⊎ (i ≤ a) → (i < a) ⊎ (a ≤ i) → nat_eq a i ≡ nat_eq (from + a) (from + i)
    by (inl lt) any = eq_false a i (omega arith) ∙ sym (eq_false (from + a) (from + i) (omega arith))
    by (inr ge) (inl lt) = eq_false a i (omega arith) ∙ sym (eq_false (from + a) (from + i) (omega arith))
    by (inr ge) (inr le) = let e : a ≡ i = omega arith in both a i e
      where
        both : (x y : ℕ) → x ≡ y → nat_eq x y ≡ nat_eq (from + x) (from + y)
        both x y e = grind (arith, nat_tests)

-- the rows of a stretch, in a list of their own
module _ (lows sub : List ℕ) (from to : ℕ) (order : from ≤ to) (within : to ≤ length lows) (many : length sub ≡ to - from) (there : (j : ℕ) → j < to - from → number_at sub j ≡ number_at lows (from + j)) where
  -- the entry of a row of all
  there_at : (k : ℕ) → from ≤ k → k < to → number_at sub (k - from) ≡ number_at lows k
  there_at k a b = there (k - from) (omega arith) ∙ ap (number_at lows) (let e : from + (k - from) ≡ k = omega arith in e)

  taker_there : (j : ℕ) → j < to - from → ((taker sub j < to - from) × (taker lows (from + j) ≡ from + taker sub j)) ⊎ ((to - from ≤ taker sub j) × (to ≤ taker lows (from + j)))
  taker_there j lt = by (cases_lt a (to - from))
    where
      a : ℕ
      a = taker sub j

      b : ℕ
      b = taker lows (from + j)

      s : IsNextUntil sub sub (length sub) j a
      s = is_taker sub j (omega arith)

      t : IsNextUntil lows lows (length lows) (from + j) b
      t = is_taker lows (from + j) (omega arith)

      own : number_at sub j ≡ number_at lows (from + j)
      own = there j lt

      -- a row of the stretch that takes in this one is no nearer than the one that the stretch knows
      nearer : b < to → b - from < a → ⊥
      nearer few less =
          let o = own in
          let h = t.behind in
          let g = t.found (omega arith) in
          let e = there_at b (omega arith) few in
          let p = s.passed (b - from) (omega arith) (omega arith) less in
          omega arith

      by : (a < to - from) ⊎ (to - from ≤ a) → ((a < to - from) × (b ≡ from + a)) ⊎ ((to - from ≤ a) × (to ≤ b))
      by (inl few) = inl (few, same (cases_lt b (from + a)) (cases_lt (from + a) b))
        where
          same : (b < from + a) ⊎ (from + a ≤ b) → (from + a < b) ⊎ (b ≤ from + a) → b ≡ from + a
          same (inl less) any = absurd (let h = t.behind in nearer (omega arith) (omega arith))
          same (inr ge) (inl more) =
              absurd (let o = own in let g = s.found (omega arith) in let h = s.behind in let e = there a few in let p = t.passed (from + a) (omega arith) (omega arith) more in omega arith)
          same (inr ge) (inr le) = omega arith
      by (inr over) = inr (over, far (cases_lt b to))
        where
          far : (b < to) ⊎ (to ≤ b) → to ≤ b
          far (inl few) = absurd (let h = t.behind in nearer few (omega arith))
          far (inr le) = le

  first_same : (j : ℕ) → j < to - from → from + first_of sub j ≡ max from (first_of lows (from + j))
  first_same j lt = by (cases_lt (from + first_of sub j) (max from (first_of lows (from + j)))) (cases_lt (max from (first_of lows (from + j))) (from + first_of sub j))
    where
      s : IsBeginFrom sub sub 0 j (first_of sub j)
      s = is_first sub j (omega arith)

      t : IsBeginFrom lows lows 0 (from + j) (first_of lows (from + j))
      t = is_first lows (from + j) (omega arith)

      own : number_at sub j ≡ number_at lows (from + j)
      own = there j lt

      by : (from + first_of sub j < max from (first_of lows (from + j))) ⊎ (max from (first_of lows (from + j)) ≤ from + first_of sub j) → (max from (first_of lows (from + j)) < from + first_of sub j) ⊎ (from + first_of sub j ≤ max from (first_of lows (from + j))) → from + first_of sub j ≡ max from (first_of lows (from + j))
      by (inl less) any =
          absurd (let o = own in
          let h = t.high in
          let k : from + first_of sub j < first_of lows (from + j) = omega arith in
          let b = t.before (first_of lows (from + j) - 1) (omega arith) (omega arith) in
          let e = there_at (first_of lows (from + j) - 1) (omega arith) (omega arith) in
          let a = s.above (first_of lows (from + j) - 1 - from) (omega arith) (omega arith) in
          omega arith)
      by (inr ge) (inl more) =
          absurd (let o = own in
          let h = s.high in
          let k : first_of lows (from + j) < from + first_of sub j = omega arith in
          let b = s.before (first_of sub j - 1) (omega arith) (omega arith) in
          let e = there (first_of sub j - 1) (omega arith) in
          let a = t.above (from + (first_of sub j - 1)) (omega arith) (omega arith) in
          omega arith)
      by (inr ge) (inr le) = omega arith

  taken_same : (i j : ℕ) → i < to - from → j ≤ to - from → taken_by sub i j + taken_by lows (from + i) from ≡ taken_by lows (from + i) (from + j)
  taken_same i zero few le = none_yet (taken_by lows (from + i) from) ∙ ap (taken_by lows (from + i)) (let e : from ≡ from + 0 = omega arith in e)
    where
      none_yet : (n : ℕ) → 0 + n ≡ n
      none_yet n = omega arith
  taken_same i (suc j) few le =
      let r = taken_same i j few (omega arith) in
      let t : nat_eq (taker sub j) i ≡ nat_eq (taker lows (from + j)) (from + i) = test (taker_there j (omega arith)) in
      let u : (if nat_eq (taker sub j) i then 1 else 0) ≡ (if nat_eq (taker lows (from + j)) (from + i) then 1 else 0) = ap (λ (c : Bool). if c then 1 else 0) t in
      sums (taken_by sub i j) (if nat_eq (taker sub j) i then 1 else 0) (taken_by lows (from + i) from) (taken_by lows (from + i) (from + j)) (if nat_eq (taker lows (from + j)) (from + i) then 1 else 0) r u
      ∙ ap (taken_by lows (from + i)) (let e : suc (from + j) ≡ from + suc j = omega arith in e)
    where
      sums : (a b c d e : ℕ) → a + c ≡ d → b ≡ e → a + b + c ≡ d + e
      sums a b c d e x y = omega arith

      test : ((taker sub j < to - from) × (taker lows (from + j) ≡ from + taker sub j)) ⊎ ((to - from ≤ taker sub j) × (to ≤ taker lows (from + j))) → nat_eq (taker sub j) i ≡ nat_eq (taker lows (from + j)) (from + i)
      test (inl h) = same_test from (taker sub j) i ∙ ap (λ (n : ℕ). nat_eq n (from + i)) (sym h.1)
      test (inr h) = let f = h.0 in let g = h.1 in eq_false (taker sub j) i (omega arith) ∙ sym (eq_false (taker lows (from + j)) (from + i) (omega arith))

  -- three lists that have it at their places
  pub alone_of : (parents firsts places : List ℕ) → ((j : ℕ) → j < to - from → number_at parents (from + j) ≡ from + parent_by sub (length sub) j) → ((j : ℕ) → j < to - from → number_at firsts (from + j) ≡ from + first_of sub j) → ((j : ℕ) → j < to - from → number_at places (from + j) ≡ place_by sub (length sub) j) → DoneAlone lows parents firsts places from to
  alone_of parents firsts places p f l = record {
    up = λ k a b. at k a b (λ (i : ℕ). number_at parents i ≡ parent_by lows to i) (λ j lt. p j lt ∙ up j (taker_there j lt));
    first = λ k a b. at k a b (λ (i : ℕ). number_at firsts i ≡ max from (first_of lows i)) (λ j lt. f j lt ∙ first_same j lt);
    place = λ k a b d. at k a b (λ (i : ℕ). taker lows i < to → number_at places i + taken_by lows (taker lows i) from ≡ taken_by lows (taker lows i) i) (λ j lt less. place j lt less (taker_there j lt)) d;
    root = λ k a b d. at k a b (λ (i : ℕ). to ≤ taker lows i → number_at places i ≡ 0) (λ j lt over. l j lt ∙ root j over (taker_there j lt)) d;
  }
    where
      at : (k : ℕ) → from ≤ k → k < to → (P : ℕ → Type 0) → ((j : ℕ) → j < to - from → P (from + j)) → P k
      at k a b P h = subst P (let e : from + (k - from) ≡ k = omega arith in e) (h (k - from) (omega arith))

      up : (j : ℕ) → ((taker sub j < to - from) × (taker lows (from + j) ≡ from + taker sub j)) ⊎ ((to - from ≤ taker sub j) × (to ≤ taker lows (from + j))) → from + parent_by sub (length sub) j ≡ parent_by lows to (from + j)
      up j (inl h) =
          let x = h.0 in
          let y = h.1 in
          ap (λ (t : Bool). from + (if t then taker sub j else j)) (lt_true (taker sub j) (length sub) (omega arith))
          ∙ sym y
          ∙ ap (λ (t : Bool). if t then taker lows (from + j) else from + j) (sym (lt_true (taker lows (from + j)) to (omega arith)))
      up j (inr h) =
          let x = h.0 in
          ap (λ (t : Bool). from + (if t then taker sub j else j)) (lt_false (taker sub j) (length sub) (omega arith))
          ∙ ap (λ (t : Bool). if t then taker lows (from + j) else from + j) (sym (lt_false (taker lows (from + j)) to h.1))

      place : (j : ℕ) → j < to - from → taker lows (from + j) < to → ((taker sub j < to - from) × (taker lows (from + j) ≡ from + taker sub j)) ⊎ ((to - from ≤ taker sub j) × (to ≤ taker lows (from + j))) → number_at places (from + j) + taken_by lows (taker lows (from + j)) from ≡ taken_by lows (taker lows (from + j)) (from + j)
      place j lt less (inr h) = absurd (let x = h.1 in omega arith)
      place j lt less (inl h) =
          let x = h.0 in
          subst (λ (q : ℕ). number_at places (from + j) + taken_by lows q from ≡ taken_by lows q (from + j)) (sym h.1)
          (ap (λ (n : ℕ). n + taken_by lows (from + taker sub j) from) (l j lt ∙ ap (λ (t : Bool). if t then taken_by sub (taker sub j) j else 0) (lt_true (taker sub j) (length sub) (omega arith)))
          ∙ taken_same (taker sub j) j h.0 (omega arith))

      root : (j : ℕ) → to ≤ taker lows (from + j) → ((taker sub j < to - from) × (taker lows (from + j) ≡ from + taker sub j)) ⊎ ((to - from ≤ taker sub j) × (to ≤ taker lows (from + j))) → place_by sub (length sub) j ≡ 0
      root j over (inl h) = absurd (let x = h.0 in let y = h.1 in omega arith)
      root j over (inr h) = let x = h.0 in ap (λ (t : Bool). if t then taken_by sub (taker sub j) j else 0) (lt_false (taker sub j) (length sub) (omega arith))

-- what is known of one row of such a list
module _ (from : ℕ) (lows : List ℕ) where
  abbrev none : Ties
  none = ties_of 0 0 0

  pub ties_many : length (ties_from from lows) ≡ length lows
  ties_many = length-map-range_with_len _ 0 (length lows)

  pub ties_there : (j : ℕ) → j < length lows → get_or (ties_from from lows) j none ≡ ties_of (from + parent_by lows (length lows) j) (from + first_of lows j) (place_by lows (length lows) j)
  ties_there j lt =
      get_or-map-range_with_len _ 0 (length lows) j j none lt (omega arith)
      ∙ sym (λ i. ties_of (from + parent_there lows j lt i) (from + first_there lows j lt i) (place_there lows j lt i))

  -- a field of each
  pub field_there : (f : Ties → ℕ) (j : ℕ) → j < length lows → number_at (map f (ties_from from lows)) j ≡ f (ties_of (from + parent_by lows (length lows) j) (from + first_of lows j) (place_by lows (length lows) j))
  field_there f j lt = get_or-map f (ties_from from lows) j none 0 (let m = ties_many in omega arith) ∙ ap f (ties_there j lt)

  pub field_list : (f : Ties → ℕ) (ns : List ℕ) → length ns ≡ length lows → ((j : ℕ) → j < length lows → number_at ns j ≡ f (ties_of (from + parent_by lows (length lows) j) (from + first_of lows j) (place_by lows (length lows) j))) → ns ≡ map f (ties_from from lows)
  field_list f ns e h =
      ext_get_or 0 ns (map f (ties_from from lows)) (e ∙ sym (length-map (ties_from from lows) f ∙ ties_many)) (λ j lt. h j (omega arith) ∙ sym (field_there f j (omega arith)))
