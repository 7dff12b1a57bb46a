-- Sums of steps before rows and over stretches of rows, and the depths that they tell.
use Rattle.std.proofs.Common.{◌≡◌, ℕ, zero, suc, ◌+◌, ◌-◌, ◌<◌, ◌≤◌, ◌^◌, ℤ, pos, negsuc, FitsSigned, w64, All, true, List, [], ◌∷◌, ◌++◌, length, map, get_or, Some, Ok, slice_get, refl, sym, ap, ◌∙◌, subst, arith}
use Rattle.std.specs.Prelude.{flat_map}
use Rattle.std.specs.List.{range_with_len}
use Rattle.std.proofs.lemmas.Option.{slice_get-get_or}
use Rattle.std.proofs.lemmas.List.FromFn.{length-map-range_with_len, get_or-map-range_with_len, get_or-range_with_len, length-range_with_len, map-range_with_len_more}
use Rattle.std.proofs.lemmas.Bool.{ltb-true}
use Rattle.scan_lookback.specs.Laws.Lists.{flat_map_more}
use Rattle.list_cuts.specs.Cuts.{number_at, start_of, AreCuts}
use Rattle.word_monoid.specs.Monoid.{IsItem}
use Rattle.word_monoid.specs.Folds.{prefix_of, prefixes}
use Rattle.word_monoid.specs.Instances.{signed}
use Rattle.word_monoid.specs.Lawful.{signed_is_monoid}
use Rattle.word_monoid.specs.Laws.Folds.{prefix_next, prefix_item}
use Rattle.source_meaning.specs.declared.kinds.Kind.{Kind}
use Rattle.depth_rules.specs.Sums.{step_at, steps_by, sums_by, depth_by}
use Rattle.rv_regs.specs.Depths.{sum_before, depth_from, depth_in, Adds, AreSums, AreStarts}
use Rattle.rv_regs.proofs.Blocked.{same_items}
use Rattle.rv_regs.proofs.Steps.{steps_signed}

map_append : {X Y : Type 0} (f : X → Y) (xs ys : List X) → map f (xs ++ ys) ≡ map f xs ++ map f ys
map_append f [] ys = refl
map_append f (x ∷ xs) ys = ap (λ l. f x ∷ l) (map_append f xs ys)

-- numbers behind one another
range_append : (a n m : ℕ) → range_with_len a (n + m) ≡ range_with_len a n ++ range_with_len (a + n) m
range_append a zero m =
    ap (range_with_len a) (let z : 0 + m ≡ m = omega arith in z) ∙ ap (λ (b : ℕ). range_with_len b m) (let z : a ≡ a + 0 = omega arith in z)
range_append a (suc n) m =
    ap (range_with_len a) (let z : suc n + m ≡ suc (n + m) = omega arith in z) ∙
    ap (λ l. a ∷ l) (range_append (a + 1) n m ∙ ap (λ (b : ℕ). range_with_len (a + 1) n ++ range_with_len b m) (let z : a + 1 + n ≡ a + suc n = omega arith in z))

-- what a function gives over all stretches, one behind the other
over_stretches : {X : Type 0} (f : ℕ → X) (ends : List ℕ) (rows : ℕ) → AreCuts ends rows → (n : ℕ) → n ≤ length ends
    → flat_map (λ c. map f (range_with_len (start_of ends c) (number_at ends c - start_of ends c))) (range_with_len 0 n) ≡ map f (range_with_len 0 (start_of ends n))
over_stretches f ends rows cuts zero le = refl
over_stretches {X} f ends rows cuts (suc n) le =
    let part : ℕ → List X = λ c. map f (range_with_len (start_of ends c) (number_at ends c - start_of ends c)) in
    let low : start_of ends n ≤ number_at ends n = cuts.order n (omega arith) in
    ap (λ (m : ℕ). flat_map part (range_with_len 0 m)) (let e : suc n ≡ n + 1 = omega arith in e)
    ∙ (flat_map_more part 0 n ∙ ap (λ (m : ℕ). flat_map part (range_with_len 0 n) ++ part m) (let z : 0 + n ≡ n = omega arith in z)
    ∙ (ap (λ l. l ++ part n) (over_stretches f ends rows cuts n (omega arith))
    ∙ (sym (map_append f (range_with_len 0 (start_of ends n)) (range_with_len (start_of ends n) (number_at ends n - start_of ends n)))
    ∙ (ap (map f) (ap (λ (b : ℕ). range_with_len 0 (start_of ends n) ++ range_with_len b (number_at ends n - start_of ends n)) (let z : start_of ends n ≡ 0 + start_of ends n = omega arith in z)
    ∙ sym (range_append 0 (start_of ends n) (number_at ends n - start_of ends n)))
    ∙ ap (λ (m : ℕ). map f (range_with_len 0 m)) (let e : start_of ends n + (number_at ends n - start_of ends n) ≡ number_at ends n = omega arith in e)))))

-- what is made of stretch c
abbrev pub part_of : {X : Type 0} → (ℕ → X) → List ℕ → ℕ → List X
part_of f ends c = map f (range_with_len (start_of ends c) (number_at ends c - start_of ends c))

pub in_range : (n k d : ℕ) → k < length (range_with_len 0 n) → get_or (range_with_len 0 n) k d < n
in_range n k d h =
    let e = length-range_with_len 0 n in
    let is : get_or (range_with_len 0 n) k d ≡ k = get_or-range_with_len 0 n k d (omega arith) ∙ (let z : 0 + k ≡ k = omega arith in z) in
    omega arith

pub over_all : {X : Type 0} (f : ℕ → X) (ends : List ℕ) (rows : ℕ) → AreCuts ends rows
    → flat_map (λ c. map f (range_with_len (start_of ends c) (number_at ends c - start_of ends c))) (range_with_len 0 (length ends)) ≡ map f (range_with_len 0 rows)
over_all f ends rows cuts = over_stretches f ends rows cuts (length ends) (omega arith) ∙ ap (λ (m : ℕ). map f (range_with_len 0 m)) cuts.all

-- one more
pub map_next : {X : Type 0} (f : ℕ → X) (from k : ℕ) → from ≤ k → map f (range_with_len from (k + 1 - from)) ≡ map f (range_with_len from (k - from)) ++ f k ∷ []
map_next f from k le =
    ap (λ (m : ℕ). map f (range_with_len from m)) (let e : k + 1 - from ≡ (k - from) + 1 = omega arith in e)
    ∙ map-range_with_len_more f from (k - from) k (omega arith)

pub map_more : {X : Type 0} (f : ℕ → X) (n : ℕ) → map f (range_with_len 0 (suc n)) ++ f (n + 1) ∷ [] ≡ map f (range_with_len 0 (suc (n + 1)))
map_more f n = sym (ap (λ (m : ℕ). map f (range_with_len 0 m)) (let e : suc (n + 1) ≡ (suc n) + 1 = omega arith in e) ∙ map-range_with_len_more f 0 (suc n) (n + 1) (omega arith))

-- items have 64 bits
pub item_fits : (x : ℤ) → IsItem signed x → FitsSigned w64 x
item_fits (pos n) h = let less : n < 2 ^ 61 = ltb-true n (2 ^ 61) h in omega arith
item_fits (negsuc n) h = let less : n < 2 ^ 61 = ltb-true n (2 ^ 61) h in omega arith

module _ (kinds : List Kind) (parents places : List ℕ) where
  abbrev S : ℕ → ℤ
  S = sum_before kinds parents places

  many_steps : length (steps_by kinds parents places) ≡ length kinds
  many_steps = length-map-range_with_len (step_at kinds parents places) 0 (length kinds)

  step_there : (k : ℕ) → k < length kinds → slice_get (steps_by kinds parents places) k ≡ Some (step_at kinds parents places k)
  step_there k lt =
      let many = many_steps in
      slice_get-get_or (steps_by kinds parents places) k (pos 0) (omega arith)
      ∙ ap Some (get_or-map-range_with_len (step_at kinds parents places) 0 (length kinds) k k (pos 0) (omega arith) (omega arith))

  sum_next : (k : ℕ) → k < length kinds → S (k + 1) ≡ signed.join (S k) (step_at kinds parents places k)
  sum_next k lt = prefix_next signed (steps_by kinds parents places) k (step_at kinds parents places k) (step_there k lt)

  pub sum_item : (k : ℕ) → IsItem signed (S k)
  sum_item k = prefix_item signed signed_is_monoid (steps_by kinds parents places) k (steps_signed kinds parents places)

  pub is_item : (k : ℕ) (sum : ℤ) → sum ≡ S k → IsItem signed sum
  is_item k sum here = subst (IsItem signed) (sym here) (sum_item k)

  -- the sum before the row behind
  pub sum_step : (k : ℕ) (sum row next : ℤ) → k < length kinds → sum ≡ S k → row ≡ step_at kinds parents places k → next ≡ signed.join sum row → next ≡ S (k + 1)
  sum_step k sum row next lt here is joins = joins ∙ ((λ i. signed.join (here i) (is i)) ∙ sym (sum_next k lt))

  -- what no row adds, and what one more adds
  pub adds_none : (from : ℕ) (x : ℤ) → x ≡ signed.unit → Adds kinds parents places from from x
  adds_none from x is = (subst (IsItem signed) (sym is) signed_is_monoid.unit_is_item, ap (signed.join (S from)) is ∙ signed_is_monoid.unit_right (S from) (sum_item from))

  pub adds_next : (from k : ℕ) (x row next : ℤ) → k < length kinds → Adds kinds parents places from k x → IsItem signed row → row ≡ step_at kinds parents places k → next ≡ signed.join x row
      → Adds kinds parents places from (k + 1) next
  adds_next from k x row next lt so_far item is joins = (
    subst (IsItem signed) (sym joins) (signed_is_monoid.join_is_item x row so_far.0 item),
    ap (signed.join (S from)) joins
        ∙ (sym (signed_is_monoid.associative (S from) x row (sum_item from) so_far.0 item)
        ∙ (ap (λ (y : ℤ). signed.join y row) so_far.1
        ∙ (ap (signed.join (S k)) is
        ∙ sym (sum_next k lt)))),
  )

  -- the sum behind stretch c, from that before it
  pub stretch_step : (ends : List ℕ) (sums : List ℤ) (count : ℕ) → AreSums kinds parents places ends count sums → (c : ℕ) (sum row next d : ℤ) → c < length sums → sum ≡ S (start_of ends c) → row ≡ get_or sums c d
      → next ≡ signed.join sum row → next ≡ S (start_of ends (c + 1))
  stretch_step ends sums count all c sum row next d lt here is joins =
      let added = all.each c (get_or sums c d) (slice_get-get_or sums c d lt) in
      joins ∙ ((λ i. signed.join (here i) (is i)) ∙ (added.1 ∙ ap (λ (n : ℕ). S (start_of ends n)) (let e : suc c ≡ c + 1 = omega arith in e)))

  pub stretch_item : (ends : List ℕ) (sums : List ℤ) (count : ℕ) → AreSums kinds parents places ends count sums → (c : ℕ) (row d : ℤ) → c < length sums → row ≡ get_or sums c d → IsItem signed row
  stretch_item ends sums count all c row d lt is = subst (IsItem signed) (sym is) ((all.each c (get_or sums c d) (slice_get-get_or sums c d lt)).0)

  -- the sums before stretches
  module _ (ends : List ℕ) (count : ℕ) (starts : List ℤ) (all : AreStarts kinds parents places ends count starts) where
    pub many_starts : length starts ≡ suc count
    many_starts = ap length all ∙ length-map-range_with_len (λ c. S (start_of ends c)) 0 (suc count)

    pub start_there : (c : ℕ) → c < suc count → get_or starts c (pos 0) ≡ S (start_of ends c)
    start_there c lt = ap (λ (l : List ℤ). get_or l c (pos 0)) all ∙ get_or-map-range_with_len (λ c. S (start_of ends c)) 0 (suc count) c c (pos 0) lt (omega arith)

    pub start_fits : (c : ℕ) → c < suc count → FitsSigned w64 (get_or starts c (pos 0))
    start_fits c lt = item_fits (get_or starts c (pos 0)) (is_item (start_of ends c) (get_or starts c (pos 0)) (start_there c lt))

  -- depths by the list of all sums
  sum_there : (k : ℕ) → k ≤ length kinds → get_or (sums_by kinds parents places) k (pos 0) ≡ S k
  sum_there k le =
      let many = many_steps in
      ap (λ (l : List ℤ). get_or (prefixes signed l) k (pos 0)) (same_items (steps_by kinds parents places))
      ∙ get_or-map-range_with_len (prefix_of signed (steps_by kinds parents places)) 0 (suc (length (steps_by kinds parents places))) k k (pos 0) (omega arith) (omega arith)

  depth_there : (k : ℕ) → k < length kinds → depth_in kinds parents places k ≡ depth_by kinds parents places (sums_by kinds parents places) k
  depth_there k lt = ap (λ (s : ℤ). depth_from kinds parents places s k) (sym (sum_there k (omega arith)))

  pub depths_there : (v : List ℕ) → v ≡ map (depth_in kinds parents places) (range_with_len 0 (length kinds)) → v ≡ map (depth_by kinds parents places (sums_by kinds parents places)) (range_with_len 0 (length kinds))
  depths_there v is = is ∙ same_map (depth_in kinds parents places) (depth_by kinds parents places (sums_by kinds parents places)) 0 (length kinds) (λ k lo hi. depth_there k (omega arith))
    where
      same_map : (f g : ℕ → ℕ) (a n : ℕ) → ((k : ℕ) → a ≤ k → k < a + n → f k ≡ g k) → map f (range_with_len a n) ≡ map g (range_with_len a n)
      same_map f g a zero h = refl
      same_map f g a (suc n) h = λ i. h a (omega arith) (omega arith) i ∷ same_map f g (a + 1) n (λ k lo hi. h k (omega arith) (omega arith)) i
