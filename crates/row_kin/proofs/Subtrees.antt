-- Where subtrees begin, and how many siblings stand before a row, by the next rows and the beginnings of runs.
use Rattle.std.proofs.Common.{◌≡◌, ℕ, zero, suc, ◌+◌, ◌<◌, ◌≤◌, ◌⊎◌, inl, inr, Bool, true, false, List, ◌∷◌, length, map, Some, refl, sym, ap, ◌∙◌, arith}
use Rattle.std.specs.Prelude.{◌&&◌, nat_eq, nat_lt, nat_le, if◌then◌else◌}
use Rattle.std.specs.List.{range_with_len}
use Rattle.std.proofs.lemmas.Bool.{cases_lt}
use Rattle.std.proofs.lemmas.Bool.Decides.{nat_tests}
use Rattle.std.proofs.lemmas.List.FromFn.{get_or-map-range_with_len, length-map-range_with_len}
use Rattle.ast_rows.specs.NodeRows.{low_at, lows_of, run_before}
use Rattle.row_laws.specs.Climbed.{parent_at, parents_by}
use Rattle.list_cuts.specs.Cuts.{number_at}
use Rattle.row_kin.specs.Nearest.{nexts, begins, prev_below, behind}
use Rattle.row_kin.specs.Searched.{IsNextUntil}
use Rattle.row_kin.proofs.Unique.{next_at}
use Rattle.row_kin.specs.Taken.{equal_before}
use Rattle.row_kin.proofs.Answered.{parents_answered}

lt_true : (a b : ℕ) → a < b → nat_lt a b ≡ true
lt_true a b h = grind (arith, nat_tests)

lt_false : (a b : ℕ) → b ≤ a → nat_lt a b ≡ false
lt_false a b h = grind (arith, nat_tests)

lies : (k q r : ℕ) → k < q → q ≤ r → (nat_lt k q && nat_le q r) ≡ true
lies k q r a b = grind (arith, nat_tests)

lies_not : (k q r : ℕ) → (q ≤ k) ⊎ (r < q) → (nat_lt k q && nat_le q r) ≡ false
lies_not k q r (inl a) = grind (arith, nat_tests)
lies_not k q r (inr a) = grind (arith, nat_tests)

same_from : {X : Type 0} (f g : ℕ → X) (a n : ℕ) → ((k : ℕ) → a ≤ k → k < a + n → f k ≡ g k) → map f (range_with_len a n) ≡ map g (range_with_len a n)
same_from f g a zero h = refl
same_from f g a (suc n) h = λ j. h a (omega arith) (omega arith) j ∷ same_from f g (a + 1) n (λ k l m. h k (omega arith) (omega arith)) j

abbrev bit : Bool → ℕ
bit b = if b then 1 else 0

module _ (lows : List ℕ) where
  abbrev next : ℕ → ℕ
  next k = number_at (nexts lows lows) k

  abbrev par : ℕ → ℕ
  par k = number_at (parents_by lows) k

  abbrev low : ℕ → ℕ
  low k = number_at lows k

  is_next : (k : ℕ) → k < length lows → IsNextUntil lows lows (length lows) k (next k)
  is_next k lt = next_at lows lows k lt

  pub parents_many : length (parents_by lows) ≡ length lows
  parents_many = length-map-range_with_len (parent_at lows) 0 (length lows)

  there : (k : ℕ) → k < length lows → par k ≡ (if nat_lt (next k) (length lows) then next k else k)
  there k lt = get_or-map-range_with_len (parent_at lows) 0 (length lows) k k 0 lt (omega arith) ∙ parents_answered lows k lt

  -- the next row, where there is one
  pub found : (k : ℕ) → k < length lows → next k < length lows → par k ≡ next k
  found k lt some = there k lt ∙ ap (λ (b : Bool). if b then next k else k) (lt_true (next k) (length lows) some)

  pub none : (k : ℕ) → k < length lows → length lows ≤ next k → par k ≡ k
  none k lt over = there k lt ∙ ap (λ (b : Bool). if b then next k else k) (lt_false (next k) (length lows) over)

  pub next_behind : (k : ℕ) → k < length lows → k < next k
  next_behind k lt = (is_next k lt).behind

  -- ---- where runs begin
  -- a row whose subtree begins before that of row i does not lie below row i
  outside : (i k : ℕ) → k < i → i < length lows → ((m : ℕ) → k < m → m < i → low i ≤ low m) → low k < low i → (par k ≤ k) ⊎ (i < par k)
  outside i k lt few all less = elim (cases_lt (next k) (length lows)) [
    | inr over ↦ inl (let e = none k (omega arith) over in omega arith)
    | inl some ↦ elim (cases_lt i (next k)) [
      | inl far ↦ inr (let e = found k (omega arith) some in omega arith)
      | inr near ↦ absurd (closer (cases_lt (next k) i) ((is_next k (omega arith)).found some) some near)
    ]
  ]
    where
      closer : (next k < i) ⊎ (i ≤ next k) → low (next k) ≤ low k → next k < length lows → next k ≤ i → ⊥
      closer (inl before) f some near = let a = all (next k) (next_behind k (omega arith)) before in omega arith
      closer (inr not) f some near = let e : low (next k) ≡ low i = ap low (let q : next k ≡ i = omega arith in q) in omega arith

  -- one before row i whose subtree begins no earlier does
  inside : (i k : ℕ) → k < i → i < length lows → low i ≤ low k → (k < par k) × (par k ≤ i)
  inside i k lt few le = elim (cases_lt i (next k)) [
    | inl far ↦ absurd (let p = (is_next k (omega arith)).passed i lt few far in omega arith)
    | inr near ↦ let e = found k (omega arith) (omega arith) in let b = next_behind k (omega arith) in (omega arith, omega arith)
  ]

  run_is : (i to : ℕ) → i < length lows → to ≤ i → ((m : ℕ) → to ≤ m → m < i → low i ≤ low m) → run_before (parents_by lows) i to ≡ behind (prev_below lows to (low i))
  run_is i zero few le all = refl
  run_is i (suc k) few le all = by (cases_lt (low k) (low i)) (λ more. run_is i k few (omega arith) more)
    where
      by : (low k < low i) ⊎ (low i ≤ low k) → (((m : ℕ) → k ≤ m → m < i → low i ≤ low m) → run_before (parents_by lows) i k ≡ behind (prev_below lows k (low i))) → run_before (parents_by lows) i (suc k) ≡ behind (prev_below lows (suc k) (low i))
      by (inl less) rest =
          ap (λ (c : Bool). if c then run_before (parents_by lows) i k else suc k) (lies_not k (par k) i (outside i k (omega arith) few (λ m a b. all m (omega arith) b) less))
          ∙ sym (ap (λ (c : Bool). behind (if c then Some k else prev_below lows k (low i))) (lt_true (low k) (low i) less))
      by (inr ge) rest =
          let x = inside i k (omega arith) few ge in
          ap (λ (c : Bool). if c then run_before (parents_by lows) i k else suc k) (lies k (par k) i x.0 x.1)
          ∙ rest (λ m a b. each m (cases_lt k m) b a)
          ∙ sym (ap (λ (c : Bool). behind (if c then Some k else prev_below lows k (low i))) (lt_false (low k) (low i) ge))
        where
          each : (m : ℕ) → (k < m) ⊎ (m ≤ k) → m < i → k ≤ m → low i ≤ low m
          each m (inl l) b a = all m (omega arith) b
          each m (inr l) b a = let e : low m ≡ low k = ap low (let q : m ≡ k = omega arith in q) in omega arith

  pub begins_are_lows : begins lows lows ≡ lows_of (parents_by lows)
  begins_are_lows =
      same_from (λ i. behind (prev_below lows i (low i))) (low_at (parents_by lows)) 0 (length lows) (λ i a b. sym (run_is i i (omega arith) (omega arith) (λ m c d. absurd (omega arith))))
      ∙ ap (λ (n : ℕ). map (low_at (parents_by lows)) (range_with_len 0 n)) (sym parents_many)

  -- of the rows before row q, those have it as their parent that have it as their next one
  same_bit : (q j : ℕ) → q < length lows → j < q → bit (nat_eq (next j) q) ≡ bit (nat_eq (par j) q)
  same_bit q j few lt = elim (cases_lt (next j) (length lows)) [
    | inl some ↦ ap (λ (x : ℕ). bit (nat_eq x q)) (sym (found j (omega arith) some))
    | inr over ↦ both (next j) (par j) (none j (omega arith) over) over
  ]
    where
      both : (x y : ℕ) → y ≡ j → length lows ≤ x → bit (nat_eq x q) ≡ bit (nat_eq y q)
      both x y e over = grind (arith, nat_tests)

  pub same_count : (q i : ℕ) → q < length lows → i ≤ q → equal_before (nexts lows lows) i q ≡ equal_before (parents_by lows) i q
  same_count q zero few le = refl
  same_count q (suc i) few le = let r = same_count q i few (omega arith) in let b = same_bit q i few (omega arith) in omega arith
