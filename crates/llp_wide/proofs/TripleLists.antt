-- The numbers of stacks for triples: one more, and the table of all.
use Rattle.std.proofs.Common.{◌≡◌, ℕ, zero, suc, ◌+◌, ◌*◌, ◌<◌, ◌≤◌, ◌⊎◌, inl, inr, List, [], ◌∷◌, ◌++◌, length, map, get_or, Bool, true, false, ◌&&◌, nat_lt, if◌then◌else◌, Option, Some, None, slice_get, refl, sym, ap, ap₂, ◌∙◌, subst, arith, append-nil, length-append}
use Rattle.std.specs.List.{AllByRecursion}
use Rattle.std.proofs.lemmas.Bool.{cases_lt, ltb-true, lt-ltb, true≢false}
use Rattle.std.proofs.lemmas.List.{map-append, length-map, get_or_append_left, get_or_at}
use Rattle.std.proofs.lemmas.Option.{same_Some, slice_get_within}
use Rattle.grammar_file.specs.declared.symbols.Symbol.{Symbol}
use Rattle.grammar_file.specs.declared.symbols.Symbol.TheVariants.{Terminal}
use Rattle.grammar_file.specs.Grammar.{Grammar, IsWellFormed}
use Rattle.llp_tables.specs.Cells.{IsBefore}
use Rattle.llp_tables.specs.LeastMembers.{KeepsLeast}
use Rattle.llp_tables.specs.Lookback.{IsLookback}
use Rattle.llp_tables.specs.Lookbacks.{cells_at}
use Rattle.ll1_sets.specs.Width.{width_of}
use Rattle.ll1_sets.specs.Predict.{IsLl1}
use Rattle.llp_tables.specs.Slots.{Slots, Empty, One, Two}
use Rattle.llp_tables.specs.declared.cells.Members.{Members}
use Rattle.ll1_sets.specs.Laws.FormTests.{both, and}
use Rattle.llp_tables.specs.Laws.StackOrder.{before_not_itself}
use Rattle.llp_wide.specs.Triples.{AreLayers, AreClosedFor, AddsOne, HasNumber, TellsTriple, AreTriples, AreTriplesUpTo}
use Rattle.llp_wide.specs.Wide.{IsWideLookback, IsWideLlp}
use Rattle.llp_wide.specs.WideConflicts.{TellWide, IsWideLlpOn}
use Rattle.llp_wide.specs.WideEntries.{triple_place}
use Rattle.llp_wide.specs.WideLookbacks.{ClosedStack, IsClosed, HasWideLookback, item_at, IsNumberOf, wide_lookback_of, AreWideLookbacksOf}
use Rattle.llp_wide.proofs.Conflicting.{wide_in_range}
use Rattle.llp_wide.proofs.Finding.{same_place, within_product}

-- ---- lists that grow

pub get_left : {A : Type 0} (xs ys : List A) (n : ℕ) → n < length xs → slice_get (xs ++ ys) n ≡ slice_get xs n
get_left {A} [] ys n l = absurd (omega arith)
get_left {A} (x ∷ xs) ys zero l = refl
get_left {A} (x ∷ xs) ys (suc n) l = get_left xs ys n (omega arith)

pub get_end : {A : Type 0} (xs : List A) (x : A) (n : ℕ) → n ≡ length xs → slice_get (xs ++ x ∷ []) n ≡ Some x
get_end {A} [] x zero e = refl
get_end {A} [] x (suc n) e = absurd (omega arith)
get_end {A} (y ∷ xs) x zero e = absurd (omega arith)
get_end {A} (y ∷ xs) x (suc n) e = get_end xs x n (omega arith)

-- ---- one more stack

layers_whole : (w : ℕ) → triple_place w 0 0 w ≡ w * w * w
layers_whole w = omega arith

module _ (g : Grammar) (b start : ℕ) where
  adds_nothing : (stacks : List ClosedStack) → AreClosedFor g b start stacks → AddsOne g b start stacks stacks
  adds_nothing stacks h = record { more = []; added = sym (append-nil stacks); few = omega arith; still = h }

  adds_stack : (stacks : List ClosedStack) (c : ClosedStack) → AreClosedFor g b start stacks → IsClosed g c → c.ahead ≡ b → AddsOne g b start stacks (stacks ++ c ∷ [])
  adds_stack stacks c h closed same = record { more = c ∷ []; added = refl; few = omega arith; still = λ n x is. go n x is (cases_lt n (length stacks)) }
    where
      go : (n : ℕ) (x : ClosedStack) → slice_get (stacks ++ c ∷ []) n ≡ Some x → (n < length stacks) ⊎ (length stacks ≤ n) → IsClosed g x × (start ≤ n → x.ahead ≡ b)
      go n x is (inl l) = h n x (sym (get_left stacks (c ∷ []) n l) ∙ is)
      go n x is (inr l) =
          let len = length-append stacks (c ∷ []) in
          let within = slice_get_within (stacks ++ c ∷ []) n x is in
          let at : n ≡ length stacks = omega arith in
          subst (λ (y : ClosedStack). IsClosed g y × (start ≤ n → y.ahead ≡ b)) (same_Some c x (sym (get_end stacks c n at) ∙ is)) (closed, λ s. same)

  pub number_found : (closes : List Symbol) (stacks : List ClosedStack) (n : ℕ) → AreClosedFor g b start stacks → (start ≤ n) × (c : ClosedStack) × (slice_get stacks n ≡ Some c) × (c.closes ≡ closes) → HasNumber g b start closes stacks stacks n
  number_found closes stacks n h f = record { adds = adds_nothing stacks h; stack = f.1; there = f.2; ahead_is = (h n f.1 f.2).1 f.0; closes_are = f.3 }

  pub number_new : (a : ℕ) (closes : List Symbol) (stacks : List ClosedStack) (c : ClosedStack) (n : ℕ) → IsLookback g a b closes → AreClosedFor g b start stacks → n ≡ length stacks → c.ahead ≡ b → c.closes ≡ closes
      → HasNumber g b start closes stacks (stacks ++ c ∷ []) n
  number_new a closes stacks c n member h is same are =
      let closed : IsClosed g c = (a, subst (λ (x : List Symbol). IsLookback g a c.ahead x) (sym are) (subst (λ (k : ℕ). IsLookback g a k closes) (sym same) member)) in
      record { adds = adds_stack stacks c h closed same; stack = c; there = get_end stacks c n is; ahead_is = same; closes_are = are }

  -- ---- a triple

  module _ (z a : ℕ) (classes : List Members) (tell : TellWide g b classes) where
    kept : (x : List Symbol) → cells_at classes z (Terminal a) ≡ One x → IsWideLookback g z a b x × ((w : List Symbol) → IsWideLookback g z a b w → w ≡ x)
    kept x e = subst (KeepsLeast (IsWideLookback g z a b)) e (tell z a)

    pub triple_member : (x : List Symbol) → cells_at classes z (Terminal a) ≡ One x → IsWideLookback g z a b x
    triple_member x e = (kept x e).0

    triple_none : IsWideLlpOn g b → ((x : List Symbol) → cells_at classes z (Terminal a) ≡ One x → ⊥) → (beta : List Symbol) → ¬ IsWideLookback g z a b beta
    triple_none llp other beta h = go (cells_at classes z (Terminal a)) refl (tell z a)
      where
        go : (s : Slots) → cells_at classes z (Terminal a) ≡ s → KeepsLeast (IsWideLookback g z a b) s → ⊥
        go Empty e k = k beta h
        go (One x) e k = other x e
        go (Two x y) e k = before_not_itself y (subst (λ (t : List Symbol). IsBefore t y) (llp z a x y k.0 k.1) k.2)

    pub tells_number : (x : List Symbol) (old new : List ClosedStack) (n : ℕ) → cells_at classes z (Terminal a) ≡ One x → HasNumber g b start x old new n → TellsTriple g z a b start old new (Some n)
    tells_number x old new n e h = record { adds = h.adds; number_is = slice_get_within new n h.stack h.there; tells = subst (HasWideLookback g z a b) (sym h.there) member }
      where
        member : HasWideLookback g z a b (Some h.stack)
        member = (h.ahead_is, subst (IsWideLookback g z a b) (sym h.closes_are) (kept x e).0, λ beta k. (kept x e).1 beta k ∙ sym h.closes_are)

    pub tells_nothing : (stacks : List ClosedStack) → IsWideLlpOn g b → ((x : List Symbol) → cells_at classes z (Terminal a) ≡ One x → ⊥) → AreClosedFor g b start stacks → TellsTriple g z a b start stacks stacks None
    tells_nothing stacks llp other h = record { adds = adds_nothing stacks h; number_is = tt; tells = triple_none llp other }

-- ---- one more number

number_more : (n m : ℕ) (k : Option ℕ) → n ≤ m → IsNumberOf n k → IsNumberOf m k
number_more n m None le h = tt
number_more n m (Some k) le h = let l : k < n = h in omega arith

all_numbers_more : (n m : ℕ) (numbers : List (Option ℕ)) → n ≤ m → AllByRecursion (IsNumberOf n) numbers → AllByRecursion (IsNumberOf m) numbers
all_numbers_more n m [] le h = tt
all_numbers_more n m (k ∷ numbers) le h = (number_more n m k le h.0, all_numbers_more n m numbers le h.1)

all_numbers_push : (n : ℕ) (numbers : List (Option ℕ)) (k : Option ℕ) → AllByRecursion (IsNumberOf n) numbers → IsNumberOf n k → AllByRecursion (IsNumberOf n) (numbers ++ k ∷ [])
all_numbers_push n [] k h i = (i, tt)
all_numbers_push n (j ∷ numbers) k h i = (h.0, all_numbers_push n numbers k h.1 i)

item_kept : (old more : List ClosedStack) (k : Option ℕ) → IsNumberOf (length old) k → item_at (old ++ more) k ≡ item_at old k
item_kept old more None h = refl
item_kept old more (Some n) h = get_left old more n h

items_kept : (old more : List ClosedStack) (numbers : List (Option ℕ)) → AllByRecursion (IsNumberOf (length old)) numbers → map (item_at (old ++ more)) numbers ≡ map (item_at old) numbers
items_kept old more [] h = refl
items_kept old more (k ∷ numbers) h = ap₂ (λ (x : Option ClosedStack) (xs : List (Option ClosedStack)). x ∷ xs) (item_kept old more k h.0) (items_kept old more numbers h.1)

-- a triple is known by its place
same_triple : (w z a b y d c : ℕ) → z < w → a < w → y < w → d < w → triple_place w z a b ≡ triple_place w y d c → (z ≡ y) × (a ≡ d) × (b ≡ c)
same_triple w z a b y d c zl al yl dl e =
    let s = same_place w (b * w + z) a (c * w + y) d al dl e in
    let t = same_place w b z c y zl yl s.0 in
    (t.1, s.1, t.0)

-- places in a row, in a layer and in all layers
pub next_triple : (w z a b : ℕ) → (b * w + z) * w + a + 1 ≡ (b * w + z) * w + (a + 1)
next_triple w z a b = omega arith

pub next_row : (w z b : ℕ) → (b * w + z) * w + w ≡ (b * w + (z + 1)) * w + 0
next_row w z b = omega arith

pub next_layer : (w b : ℕ) → (b * w + w) * w + 0 ≡ ((b + 1) * w + 0) * w + 0
next_layer w b = omega arith

module _ (g : Grammar) where
  -- a layer begins
  pub up_to_start : (b start n : ℕ) (numbers : List (Option ℕ)) (stacks : List ClosedStack) → AreTriples g numbers stacks → length numbers ≡ n → start ≡ length stacks → AreTriplesUpTo g b start n numbers stacks
  up_to_start b start n numbers stacks h size is =
      record { triples = h; size = size; behind = omega arith; here = λ k c got. (h.closed k c got, λ l. let m = slice_get_within stacks k c got in absurd (omega arith)) }

  pub triples_start : AreTriples g [] []
  triples_start = record { numbers_are = tt; few = omega arith; closed = λ n c e. absurd (let m = slice_get_within [] n c e in omega arith); tells = λ z a b i j l. absurd (omega arith) }

  pub triples_more : (z a b start : ℕ) (numbers : List (Option ℕ)) (old new : List ClosedStack) (number : Option ℕ) → z < width_of g → a < width_of g → AreTriplesUpTo g b start (triple_place (width_of g) z a b) numbers old → TellsTriple g z a b start old new number
      → AreTriplesUpTo g b start (triple_place (width_of g) z a b + 1) (numbers ++ number ∷ []) new
  triples_more z a b start numbers old new number zl al h t =
      record {
        triples = record {
          numbers_are = all_numbers_push (length new) numbers number (all_numbers_more (length old) (length new) numbers (omega (arith, len)) h.triples.numbers_are) t.number_is;
          few = let f = h.triples.few in let m = t.adds.few in let p = length-append numbers (number ∷ []) in omega (arith, len);
          closed = λ n c e. (t.adds.still n c e).0;
          tells = tells;
        };
        size = let p = length-append numbers (number ∷ []) in let s = h.size in omega arith;
        behind = let s = h.behind in omega (arith, len);
        here = t.adds.still;
      }
    where
      len : length new ≡ length old + length t.adds.more
      len = ap length t.adds.added ∙ length-append old t.adds.more

      old_kept : map (item_at new) numbers ≡ map (item_at old) numbers
      old_kept = ap (λ (es : List ClosedStack). map (item_at es) numbers) t.adds.added ∙ items_kept old t.adds.more numbers h.triples.numbers_are

      all : map (item_at new) (numbers ++ number ∷ []) ≡ map (item_at old) numbers ++ item_at new number ∷ []
      all = map-append (item_at new) numbers (number ∷ []) ∙ ap (λ (es : List (Option ClosedStack)). es ++ item_at new number ∷ []) old_kept

      tells : (y d c : ℕ) → y < width_of g → d < width_of g → triple_place (width_of g) y d c < length (numbers ++ number ∷ [])
          → HasWideLookback g y d c (get_or (map (item_at new) (numbers ++ number ∷ [])) (triple_place (width_of g) y d c) None)
      tells y d c yl dl m =
          subst (λ (es : List (Option ClosedStack)). HasWideLookback g y d c (get_or es (triple_place (width_of g) y d c) None)) (sym all) (go (cases_lt (triple_place (width_of g) y d c) (length numbers)))
        where
          es : List (Option ClosedStack)
          es = map (item_at old) numbers

          len_es : length es ≡ length numbers
          len_es = length-map numbers (item_at old)

          go : (triple_place (width_of g) y d c < length numbers) ⊎ (length numbers ≤ triple_place (width_of g) y d c) → HasWideLookback g y d c (get_or (es ++ item_at new number ∷ []) (triple_place (width_of g) y d c) None)
          go (inl n) = subst (HasWideLookback g y d c) (sym (get_or_append_left es (item_at new number ∷ []) None (triple_place (width_of g) y d c) (omega (arith, len_es)))) (h.triples.tells y d c yl dl n)
          go (inr n) =
              let more = length-append numbers (number ∷ []) in
              let at : length numbers ≡ triple_place (width_of g) y d c = omega arith in
              let same = same_triple (width_of g) z a b y d c zl al yl dl (sym h.size ∙ at) in
              let place = get_or_at es (item_at new number) [] None (triple_place (width_of g) y d c) (len_es ∙ at) in
              subst (HasWideLookback g y d c) (sym place) (subst (λ (k : ℕ × ℕ × ℕ). HasWideLookback g k.0 k.1 k.2 (item_at new number)) (λ i. (same.0 i, same.1 i, same.2 i)) t.tells)

  -- ---- the table

  pub lookbacks_of_layers : IsWellFormed g → IsLl1 g → IsWideLlp g → (numbers : List (Option ℕ)) (stacks : List ClosedStack) → AreLayers g (width_of g) numbers stacks
      → AreWideLookbacksOf g (record { width = width_of g; numbers = numbers; stacks = stacks })
  lookbacks_of_layers well ll1 llp numbers stacks h =
      record { width_is = refl; size_is = len; numbers_are = h.triples.numbers_are; closed = h.triples.closed; ll1 = ll1; llp = llp; lookbacks = lookbacks }
    where
      w : ℕ
      w = width_of g

      len : length numbers ≡ w * w * w
      len = h.place ∙ layers_whole w

      inside : (z a b : ℕ) → z < w → a < w → b < w → triple_place w z a b < length numbers
      inside z a b i j k = subst (λ (n : ℕ). triple_place w z a b < n) (sym len) (within_product (w * w) w (b * w + z) a (within_product w w b z k i) j)

      lookbacks : (z a b : ℕ) → HasWideLookback g z a b (wide_lookback_of (record { width = w; numbers = numbers; stacks = stacks }) z a b)
      lookbacks z a b = go (nat_lt z w && (nat_lt a w && nat_lt b w)) refl
        where
          go : (x : Bool) → (nat_lt z w && (nat_lt a w && nat_lt b w)) ≡ x → HasWideLookback g z a b (if x then get_or (map (item_at stacks) numbers) (triple_place w z a b) None else None)
          go true e =
              let k = both (nat_lt z w) (nat_lt a w && nat_lt b w) e in
              let m = both (nat_lt a w) (nat_lt b w) k.1 in
              h.triples.tells z a b (ltb-true z w k.0) (ltb-true a w m.0) (inside z a b (ltb-true z w k.0) (ltb-true a w m.0) (ltb-true b w m.1))
          go false e = λ beta k.
              let r = wide_in_range g well z a b beta k in
              true≢false (sym (and (nat_lt z w) (nat_lt a w && nat_lt b w) (lt-ltb z w r.0) (and (nat_lt a w) (nat_lt b w) (lt-ltb a w r.1) (lt-ltb b w r.2))) ∙ e)
