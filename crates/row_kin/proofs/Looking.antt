-- A row looks at the rows before it, from the first row of one subtree to the row before it.
use Rattle.std.proofs.Common.{◌≡◌, ◌≢◌, ℕ, zero, suc, ◌+◌, ◌-◌, ◌<◌, ◌≤◌, ◌⊎◌, inl, inr, Bool, true, false, List, length, refl, sym, ap, ◌∙◌, subst, arith}
use Rattle.std.specs.Prelude.{nat_eq, nat_lt, if◌then◌else◌}
use Rattle.std.proofs.lemmas.Bool.{cases_lt}
use Rattle.std.proofs.lemmas.Bool.Decides.{nat_tests}
use Rattle.std.proofs.lemmas.List.FromFn.{get_or-map-range_with_len}
use Rattle.list_cuts.specs.Cuts.{number_at}
use Rattle.row_kin.specs.Nearest.{prev_below, behind}
use Rattle.row_kin.specs.Searched.{IsNextUntil, IsBeginFrom}
use Rattle.row_kin.specs.Cutoff.{begin_from}
use Rattle.row_kin.proofs.Unique.{next_at, begin_from_is}
use Rattle.row_kin.proofs.Whole.{begin_is}
use Rattle.row_kin.specs.Taken.{taker, first_of, taken_by, parent_by, place_by, placed_by, Looks}

abbrev bit : Bool → ℕ
bit b = if b then 1 else 0

pub eq_true : (a b : ℕ) → a ≡ b → nat_eq a b ≡ true
eq_true a b h = grind (arith, nat_tests)

pub eq_false : (a b : ℕ) → a ≢ b → nat_eq a b ≡ false
eq_false a b h = grind (arith, nat_tests)

pub lt_true : (a b : ℕ) → a < b → nat_lt a b ≡ true
lt_true a b h = grind (arith, nat_tests)

pub lt_false : (a b : ℕ) → b ≤ a → nat_lt a b ≡ false
lt_false a b h = grind (arith, nat_tests)

pub lt_more : (a i : ℕ) → a ≢ i → nat_lt a (i + 1) ≡ nat_lt a i
lt_more a i ne = by (cases_lt a i)
  where
    by : (a < i) ⊎ (i ≤ a) → nat_lt a (i + 1) ≡ nat_lt a i
    by (inl lt) = lt_true a (i + 1) (omega arith) ∙ sym (lt_true a i lt)
    by (inr ge) = lt_false a (i + 1) (omega arith) ∙ sym (lt_false a i ge)

module _ (lows : List ℕ) where
  abbrev low : ℕ → ℕ
  low k = number_at lows k

  pub is_taker : (k : ℕ) → k < length lows → IsNextUntil lows lows (length lows) k (taker lows k)
  is_taker k lt = next_at lows lows k lt

  pub taker_behind : (k : ℕ) → k < length lows → k < taker lows k
  taker_behind k lt = (is_taker k lt).behind

  first_there : (k : ℕ) → k < length lows → first_of lows k ≡ behind (prev_below lows k (low k))
  first_there k lt = get_or-map-range_with_len (λ i. behind (prev_below lows i (low i))) 0 (length lows) k k 0 lt (omega arith)

  pub is_first : (k : ℕ) → k < length lows → IsBeginFrom lows lows 0 k (first_of lows k)
  is_first k lt =
      let e = first_there k lt in
      subst (IsBeginFrom lows lows 0 k) (let q : begin_from lows lows 0 k ≡ first_of lows k = omega arith in q) (begin_from_is lows lows 0 k (omega arith))

  -- a row that is no root before row i, and whose subtree begins no earlier than that of row i
  pub ended : (i k : ℕ) → k < i → i < length lows → low i ≤ low k → taker lows k ≤ i
  ended i k lt few le = by (cases_lt i (taker lows k))
    where
      by : (i < taker lows k) ⊎ (taker lows k ≤ i) → taker lows k ≤ i
      by (inl far) = absurd (let p = (is_taker k (omega arith)).passed i lt few far in omega arith)
      by (inr near) = near

  pub takes_one : (i k : ℕ) → k < i → i < length lows → i ≤ taker lows k → low i ≤ low k → taker lows k ≡ i
  takes_one i k lt few waits le = let e = ended i k lt few le in omega arith

  -- the rows of a subtree are taken in up to its root
  pub inside_ends : (p k : ℕ) → p < length lows → first_of lows p ≤ k → k < p → taker lows k ≤ p
  inside_ends p k few a b = ended p k b few ((is_first p few).above k a b)

  -- no row before the first row of a subtree is taken in by its root
  pub outside_stays : (i k : ℕ) → i < length lows → k < first_of lows i → taker lows k ≢ i
  outside_stays i k few lt is = by (cases_lt (k + 1) (first_of lows i))
    where
      f : IsBeginFrom lows lows 0 i (first_of lows i)
      f = is_first i few

      t : IsNextUntil lows lows (length lows) k (taker lows k)
      t = is_taker k (let h = f.high in omega arith)

      found : low i ≤ low k
      found = subst (λ (j : ℕ). low j ≤ low k) is (t.found (omega arith))

      by : (k + 1 < first_of lows i) ⊎ (first_of lows i ≤ k + 1) → ⊥
      by (inl more) =
          let h = f.high in
          let g = found in
          let p = t.passed (first_of lows i - 1) (omega arith) (omega arith) (omega arith) in
          let b = f.before (first_of lows i - 1) (omega arith) (omega arith) in
          omega arith
      by (inr last) = let g = found in let b = f.before k (omega arith) (omega arith) in omega arith

  -- ---- a look goes on
  pub look_steps : (i p : ℕ) → p < i → i < length lows → Looks lows i (p + 1) → low i ≤ low p → Looks lows i (first_of lows p)
  look_steps i p lt few look le = record {
    above = λ k a b. above k a b (cases_lt k p);
    waits = λ k e. waits k e (cases_lt (taker lows k) i);
  }
    where
      f : IsBeginFrom lows lows 0 p (first_of lows p)
      f = is_first p (omega arith)

      taken : taker lows p ≡ i
      taken = takes_one i p lt few (look.waits p refl) le

      above : (k : ℕ) → first_of lows p ≤ k → k < i → (k < p) ⊎ (p ≤ k) → low i ≤ low k
      above k a b (inl less) = let h = f.above k a less in omega arith
      above k a b (inr ge) = by (cases_lt p k)
        where
          by : (p < k) ⊎ (k ≤ p) → low i ≤ low k
          by (inl more) = look.above k (omega arith) b
          by (inr same) = let e : p ≡ k = omega arith in subst (λ (j : ℕ). low i ≤ low j) e le

      waits : (k : ℕ) → k + 1 ≡ first_of lows p → (taker lows k < i) ⊎ (i ≤ taker lows k) → i ≤ taker lows k
      waits k e (inr ge) = ge
      waits k e (inl less) = absurd (by (taker lows k) (is_taker k (let h = f.high in omega arith)) less (cases_lt (taker lows k) p) (cases_lt p (taker lows k)))
        where
          before : low k < low p
          before = f.before k e (omega arith)

          by : (m : ℕ) → IsNextUntil lows lows (length lows) k m → m < i → (m < p) ⊎ (p ≤ m) → (p < m) ⊎ (m ≤ p) → ⊥
          by m n l (inl a) any = let b = before in let g = n.found (omega arith) in let o = n.behind in let h = f.above m (omega arith) a in omega arith
          by m n l (inr a) (inl c) =
              let b = before in
              let g = n.found (omega arith) in
              let t = taken in
              let h = (is_taker p (omega arith)).passed m c (omega arith) (omega arith) in
              omega arith
          by m n l (inr a) (inr c) = let b = before in let e : m ≡ p = omega arith in let g = n.found (omega arith) in let h : low m ≡ low p = ap low e in omega arith

  pub look_ends : (i top : ℕ) → top ≤ i → i < length lows → Looks lows i top → (top ≡ 0) ⊎ (low (top - 1) < low i) → top ≡ first_of lows i
  look_ends i top le few look stop =
      begin_is lows lows i top (record { low = omega arith; high = le; above = look.above; before = λ k e a. last k e stop })
      ∙ sym (first_there i few)
    where
      last : (k : ℕ) → k + 1 ≡ top → (top ≡ 0) ⊎ (low (top - 1) < low i) → low k < low i
      last k e (inl none) = absurd (omega arith)
      last k e (inr lt) = let q : top - 1 ≡ k = omega arith in subst (λ (j : ℕ). low j < low i) q lt

  -- a row that begins to look
  pub look_begins : (i : ℕ) → i < length lows → Looks lows i i
  look_begins i few = record { above = λ k a b. absurd (omega arith); waits = λ k e. let b = taker_behind k (omega arith) in omega arith }

  -- ---- how many are taken in
  pub taken_few : (i k : ℕ) → taken_by lows i k ≤ k
  taken_few i zero = omega arith
  taken_few i (suc k) = by (nat_eq (taker lows k) i) (taken_few i k)
    where
      by : (b : Bool) → taken_by lows i k ≤ k → taken_by lows i k + bit b ≤ suc k
      by true h = omega arith
      by false h = omega arith

  none_more : (i a n : ℕ) → ((k : ℕ) → a ≤ k → k < a + n → taker lows k ≢ i) → taken_by lows i (a + n) ≡ taken_by lows i a
  none_more i a zero h = ap (taken_by lows i) (let e : a + 0 ≡ a = omega arith in e)
  none_more i a (suc n) h =
      ap (taken_by lows i) (let e : a + suc n ≡ suc (a + n) = omega arith in e)
      ∙ ap (λ (b : Bool). taken_by lows i (a + n) + bit b) (eq_false (taker lows (a + n)) i (h (a + n) (omega arith) (omega arith)))
      ∙ (let r = none_more i a n (λ k l m. h k l (omega arith)) in let z : taken_by lows i (a + n) + 0 ≡ taken_by lows i a = omega arith in z)

  -- none of these rows is taken in by row i
  pub none_between : (i a b : ℕ) → a ≤ b → ((k : ℕ) → a ≤ k → k < b → taker lows k ≢ i) → taken_by lows i b ≡ taken_by lows i a
  none_between i a b le h =
      ap (taken_by lows i) (let e : b ≡ a + (b - a) = omega arith in e) ∙ none_more i a (b - a) (λ k l m. h k l (omega arith))

  -- where none is counted, none is
  pub none_counted : (i b k : ℕ) → taken_by lows i b ≡ 0 → k < b → taker lows k ≢ i
  none_counted i zero k none lt is = omega arith
  none_counted i (suc b) k none lt is = by (cases_lt k b) (λ less. none_counted i b k (omega arith) less is)
    where
      by : (k < b) ⊎ (b ≤ k) → (k < b → ⊥) → ⊥
      by (inl less) before = before less
      by (inr ge) before =
          let e : k ≡ b = omega arith in
          let one = ap bit (eq_true (taker lows b) i (subst (λ (j : ℕ). taker lows j ≡ i) e is)) in
          omega arith

  pub none_outside : (i k : ℕ) → i < length lows → k ≤ first_of lows i → taken_by lows i k ≡ 0
  none_outside i k few le = none_between i 0 k (omega arith) (λ j a b. outside_stays i j few (omega arith))

  -- one row is, and none below it
  pub one_more : (i p : ℕ) → p < i → i < length lows → taker lows p ≡ i → taken_by lows i (p + 1) ≡ taken_by lows i (first_of lows p) + 1
  one_more i p lt few is =
      ap (taken_by lows i) (let e : p + 1 ≡ suc p = omega arith in e)
      ∙ ap (λ (b : Bool). taken_by lows i p + bit b) (eq_true (taker lows p) i is)
      ∙ ap (λ (n : ℕ). n + 1) (none_between i (first_of lows p) p (is_first p (omega arith)).high (λ k a b. let e = inside_ends p k (omega arith) a b in omega arith))

  pub one_here : (i p : ℕ) → p < i → i < length lows → taker lows p ≡ i → taken_by lows i (first_of lows p) ≡ taken_by lows i p
  one_here i p lt few is = sym (none_between i (first_of lows p) p (is_first p (omega arith)).high (λ k a b. let e = inside_ends p k (omega arith) a b in omega arith))

  -- ---- what is known of a row, one row later
  pub parent_same : (i k : ℕ) → taker lows k ≢ i → parent_by lows i k ≡ parent_by lows (i + 1) k
  parent_same i k ne = ap (λ (b : Bool). if b then taker lows k else k) (sym (lt_more (taker lows k) i ne))

  pub parent_new : (i k : ℕ) → taker lows k ≡ i → i ≡ parent_by lows (i + 1) k
  parent_new i k is = sym is ∙ ap (λ (b : Bool). if b then taker lows k else k) (sym (lt_true (taker lows k) (i + 1) (omega arith)))

  pub parent_root : (i k : ℕ) → i ≤ taker lows k → parent_by lows i k ≡ k
  parent_root i k le = ap (λ (b : Bool). if b then taker lows k else k) (lt_false (taker lows k) i le)

  pub place_root : (i k : ℕ) → i ≤ taker lows k → place_by lows i k ≡ 0
  place_root i k le = ap (λ (b : Bool). if b then taken_by lows (taker lows k) k else 0) (lt_false (taker lows k) i le)

  pub place_same : (i k old : ℕ) → taker lows k ≢ i → placed_by lows i k old ≡ old
  place_same i k old ne = ap (λ (b : Bool). if b then taken_by lows i k else old) (eq_false (taker lows k) i ne)

  pub place_new : (i k old : ℕ) → taker lows k ≡ i → placed_by lows i k old ≡ taken_by lows i k
  place_new i k old is = ap (λ (b : Bool). if b then taken_by lows i k else old) (eq_true (taker lows k) i is)

  pub place_later : (i k : ℕ) → placed_by lows i k (place_by lows i k) ≡ place_by lows (i + 1) k
  place_later i k = by (cases_lt (taker lows k) i) (cases_lt i (taker lows k))
    where
      other : taker lows k ≢ i → placed_by lows i k (place_by lows i k) ≡ place_by lows (i + 1) k
      other ne = place_same i k (place_by lows i k) ne ∙ ap (λ (b : Bool). if b then taken_by lows (taker lows k) k else 0) (sym (lt_more (taker lows k) i ne))

      by : (taker lows k < i) ⊎ (i ≤ taker lows k) → (i < taker lows k) ⊎ (taker lows k ≤ i) → placed_by lows i k (place_by lows i k) ≡ place_by lows (i + 1) k
      by (inl lt) any = other (omega arith)
      by (inr ge) (inl gt) = other (omega arith)
      by (inr ge) (inr le) =
          let e : taker lows k ≡ i = omega arith in
          place_new i k (place_by lows i k) e
          ∙ ap (λ (q : ℕ). taken_by lows q k) (sym e)
          ∙ ap (λ (b : Bool). if b then taken_by lows (taker lows k) k else 0) (sym (lt_true (taker lows k) (i + 1) (omega arith)))
