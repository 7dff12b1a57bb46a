-- Which rows stay is what the tree says.
use Rattle.std.proofs.Common.{◌≡◌, ℕ, zero, suc, ◌+◌, ◌-◌, ◌<◌, ◌≤◌, inl, inr, Bool, true, false, not, List, [], ◌∷◌, ◌++◌, length, Option, Some, None, refl, sym, ap, ◌∙◌, subst, arith}
use Rattle.std.specs.Prelude.{◌&&◌, ◌||◌, if◌then◌else◌, is_some, nat_eq}
use Rattle.std.proofs.lemmas.Bool.{cases_lt, lt-ltb, le-ltb}
use Rattle.std.proofs.lemmas.List.{length-append}
use Rattle.source_meaning.specs.declared.kinds.Kind.{Kind}
use Rattle.source_meaning.specs.Rows.{Node, node, Nodes, last, next, node_rows, nodes_rows}
use Rattle.ast_rows.specs.Subtrees.{node_lows, nodes_lows}
use Rattle.folded_rows.specs.Columns.{Columns, constant_by, gives_way_by, number_in, value_in, many, kind_in, AreConstants, gives_way, is_dropped, is_bare, span, reach, is_below, stays}
use Rattle.folded_rows.specs.Nodes.{node_value, right_value, left_value, none_of, none_of_all, keeps_by, keeps, keeps_last, keeps_all}
use Rattle.folded_rows.proofs.Along.{Along, along_both, AreNone}
use Rattle.folded_rows.proofs.Picked.{size, sizes, all_rows_many, none_many, none_is, all_none_many, all_none_are, keeps_many, keeps_all_many}
use Rattle.folded_rows.proofs.Sound.{Taken, takes_none, takes_one, takes_two, taken, Arity, IsSound, AreSound, none_gives, one_gives, gives_some}
use Rattle.folded_rows.proofs.Tables.{below, size_below, Rows, Lows, rows_below, row_here, rows_first, rows_behind, lows_below, low_here, lows_first, lows_behind, lows_within, value_is, way_is}

both_not : (a b d : Bool) → a ≡ false → b ≡ false → d ≡ false → (not a && (not b && not d)) ≡ true
both_not a b d e f g = λ i. not (e i) && (not (f i) && not (g i))

not_first : (a b d : Bool) → a ≡ true → (not a && (not b && not d)) ≡ false
not_first a b d e = ap (λ x. not x && (not b && not d)) e

not_second : (a b d : Bool) → b ≡ true → (not a && (not b && not d)) ≡ false
not_second true b d e = refl
not_second false b d e = ap (λ x. not x && not d) e

not_third : (a b d : Bool) → d ≡ true → (not a && (not b && not d)) ≡ false
not_third true b d e = refl
not_third false true d e = refl
not_third false false d e = ap not e

or_right : (a b : Bool) → b ≡ true → (a || b) ≡ true
or_right true b e = refl
or_right false b e = e

is_zero : (n : ℕ) → n ≡ 0 → nat_eq n 0 ≡ true
is_zero n e = ap (λ m. nat_eq m 0) e

along_none : (test : ℕ → Bool) (bs : List Bool) (i : ℕ) → AreNone bs → ((j : ℕ) → i ≤ j → j < i + length bs → test j ≡ false) → Along (λ k b. test k ≡ b) i bs
along_none test [] i n h = tt
along_none test (b ∷ bs) i n h = (h i (omega arith) (omega arith) ∙ sym n.0, along_none test bs (i + 1) n.1 (λ j a l. h j (omega arith) (omega arith)))

module _ (c : Columns) (values : List (Option ℕ)) (fixed : AreConstants c values) where
  abbrev v : ℕ → Option ℕ
  v k = value_in values k

  abbrev bare : ℕ → Bool
  bare k = is_bare c values k

  abbrev low : ℕ → ℕ
  low k = number_in c.lows k

  abbrev Flags : ℕ → List Bool → Type 0
  Flags i bs = Along (λ k b. stays c values k ≡ b) i bs

  -- ---- what a span reaches
  span_bare : (m k : ℕ) → k ≡ many c - 1 - m → bare k ≡ true → span c values m ≡ many c - low k
  span_bare m k e h = ap (λ q. if bare q then many c - low q else 0) (sym e) ∙ ap (λ b. if b then many c - low k else 0) h

  span_clear : (m k : ℕ) → k ≡ many c - 1 - m → bare k ≡ false → span c values m ≡ 0
  span_clear m k e h = ap (λ q. if bare q then many c - low q else 0) (sym e) ∙ ap (λ b. if b then many c - low k else 0) h

  reach_more : (m n : ℕ) → m < n → span c values m ≤ reach c values n
  reach_more m zero h = absurd (omega arith)
  reach_more m (suc n) h = elim (cases_lt m n) [
    | inl l ↦ omega (arith, reach_more m n l)
    | inr g ↦
        let e : m ≡ n = omega arith in
        let f = ap (span c values) e in
        omega arith
  ]

  reach_less : (n b : ℕ) → ((m : ℕ) → m < n → span c values m ≤ b) → reach c values n ≤ b
  reach_less zero b h = omega arith
  reach_less (suc n) b h = omega (arith, reach_less n b (λ m l. h m (omega arith)), h n (omega arith))

  below_there : (k j : ℕ) → k < j → j < many c → bare j ≡ true → low j ≤ k → is_below c values k ≡ true
  below_there k j l n h g =
      let s = span_bare (many c - 1 - j) j (omega arith) h in
      let r = reach_more (many c - 1 - j) (many c - 1 - k) (omega arith) in
      lt-ltb (many c - 1 - k) (reach c values (many c - 1 - k)) (omega arith)

  below_not : (k : ℕ) → k < many c → ((j : ℕ) → k < j → j < many c → bare j ≡ true → k < low j) → is_below c values k ≡ false
  below_not k l h =
      le-ltb (many c - 1 - k) (reach c values (many c - 1 - k)) (reach_less (many c - 1 - k) (many c - 1 - k) (λ m n. at m n (bare (many c - 1 - m)) refl))
    where
      at : (m : ℕ) → m < many c - 1 - k → (b : Bool) → bare (many c - 1 - m) ≡ b → span c values m ≤ many c - 1 - k
      at m n true e = let s = span_bare m (many c - 1 - m) refl e in let g = h (many c - 1 - m) (omega arith) (omega arith) e in omega arith
      at m n false e = let s = span_clear m (many c - 1 - m) refl e in omega arith

  -- no row from this one on has all before it in its hold
  abbrev Clear : ℕ → Type 0
  Clear e = (j : ℕ) → e ≤ j → j < many c → bare j ≡ true → e ≤ low j

  bare_some : (k : ℕ) (x : Option ℕ) → v k ≡ x → is_some x ≡ true → gives_way c values k ≡ false → bare k ≡ true
  bare_some k x e s g = λ i. ((ap is_some e ∙ s) i) && (not (g i) || is_dropped c values k)

  bare_dropped : (k : ℕ) (x : Option ℕ) → v k ≡ x → is_some x ≡ true → is_dropped c values k ≡ true → bare k ≡ true
  bare_dropped k x e s d = ap (λ b. b && (not (gives_way c values k) || is_dropped c values k)) (ap is_some e ∙ s) ∙ or_right (not (gives_way c values k)) (is_dropped c values k) d

  bare_none : (k : ℕ) → v k ≡ None → bare k ≡ false
  bare_none k e = ap (λ x. is_some x && (not (gives_way c values k) || is_dropped c values k)) e

  bare_gives : (k : ℕ) → gives_way c values k ≡ true → is_dropped c values k ≡ false → bare k ≡ false
  bare_gives k g d = by (is_some (v k)) ∙ refl
    where
      by : (b : Bool) → (b && (not (gives_way c values k) || is_dropped c values k)) ≡ false
      by true = λ i. not (g i) || d i
      by false = refl

  -- a root that stays in its place
  root_stays : (r : ℕ) → r < many c → Clear (r + 1) → gives_way c values r ≡ false → is_dropped c values r ≡ false → stays c values r ≡ true
  root_stays r l h g d =
      both_not (is_below c values r) (gives_way c values r) (is_dropped c values r) (below_not r l (λ j a b e. let x = h j (omega arith) b e in omega arith)) g d

  -- whether the root of a child is dropped
  dropped_is : (x : Node) (k : Kind) (up place i r : ℕ) → IsSound x → Rows c i (node_rows up place x) → Lows c i (node_lows i x) → i + size x ≤ many c → i + below x + up ≡ r → kind_in c r ≡ k
      → is_dropped c values (i + below x) ≡ (nat_eq place 0 && gives_way_by k (node_value x))
  dropped_is (node k' t cs) k up place i r ok h g l e q =
      let here = row_here c k' t cs up place i h in
      let value = value_is c values fixed (node k' t cs) up place i ok h g l in
      λ j. nat_eq (here.place_is j) 0 && gives_way_by ((ap (kind_in c) (here.parent_is ∙ e) ∙ q) j) (value j)

  -- children that are not dropped, those from this place on
  abbrev Undropped : Kind → ℕ → Nodes → Type 0
  Undropped k place last = Unit {0}
  Undropped k place (next x cs) = ((nat_eq place 0 && gives_way_by k (node_value x)) ≡ false) × Undropped k (place + 1) cs

  undropped_all : (k : Kind) → ((x : Option ℕ) → gives_way_by k x ≡ false) → (cs : Nodes) (place : ℕ) → Undropped k place cs
  undropped_all k h last place = tt
  undropped_all k h (next x cs) place = (by (nat_eq place 0), undropped_all k h cs (place + 1))
    where
      by : (b : Bool) → (b && gives_way_by k (node_value x)) ≡ false
      by true = h (node_value x)
      by false = refl

  undropped_by : (k : Kind) (cs : Nodes) (w : Taken) → taken k ≡ w → Arity w cs → gives_way_by k (left_value None None cs) ≡ false → Undropped k 0 cs
  undropped_by k cs takes_none e a g = undropped_all k (λ x. none_gives k x e) cs 0
  undropped_by k cs takes_one e a g = undropped_all k (λ x. one_gives k x e) cs 0
  undropped_by k last takes_two e a g = absurd a
  undropped_by k (next x last) takes_two e a g = absurd a
  undropped_by k (next x (next y last)) takes_two e a g = (g, (refl, tt))
  undropped_by k (next x (next y (next z cs))) takes_two e a g = absurd a

  mutual
    pub node_flags : (x : Node) (up place i : ℕ) → IsSound x → Rows c i (node_rows up place x) → Lows c i (node_lows i x) → i + size x ≤ many c → Clear (i + size x) → is_dropped c values (i + below x) ≡ false
        → Flags i (keeps x)
    node_flags (node k t cs) up place i ok h g l clear d =
        flags_by k t cs up place i (taken k) refl ok.0 ok h g l (λ j a b e. let z = clear j (omega arith) b e in omega arith) d
        (gives_way_by k (left_value None None cs)) (constant_by k (left_value None None cs) (right_value None cs)) refl
        (way_is c values fixed k t cs up place i ok h g l) (value_is c values fixed (node k t cs) up place i ok h g l)
        (λ clear_r und. all_flags cs 0 i (i + sizes cs) k ok.1 (rows_below c k t cs up place i h) (lows_below c k t cs i g) refl (omega arith) (row_here c k t cs up place i h).kind_is clear_r und)

    flags_by : (k : Kind) (t : Option ℕ) (cs : Nodes) (up place i : ℕ) (w : Taken) → taken k ≡ w → Arity w cs → IsSound (node k t cs) → Rows c i (node_rows up place (node k t cs)) → Lows c i (node_lows i (node k t cs))
        → i + size (node k t cs) ≤ many c → Clear (i + sizes cs + 1) → is_dropped c values (i + sizes cs) ≡ false → (b : Bool) (o : Option ℕ) → gives_way_by k (left_value None None cs) ≡ b
        → gives_way c values (i + sizes cs) ≡ b → v (i + sizes cs) ≡ o → (Clear (i + sizes cs) → Undropped k 0 cs → Flags i (keeps_all cs)) → Flags i (keeps_by b o (keeps_last cs) (none_of_all cs) (keeps_all cs))
    flags_by k t cs up place i takes_none e a ok h g l clear d true o q way value kids = absurd (let f = sym q ∙ none_gives k _ e in cc)
    flags_by k t cs up place i takes_one e a ok h g l clear d true o q way value kids = absurd (let f = sym q ∙ one_gives k _ e in cc)
    flags_by k t last up place i takes_two e a ok h g l clear d true o q way value kids = absurd a
    flags_by k t (next x last) up place i takes_two e a ok h g l clear d true o q way value kids = absurd a
    flags_by k t (next x (next y last)) up place i takes_two e a ok h g l clear d true o q way value kids =
        let r = i + sizes (next x (next y last)) in
        let here = row_here c k t (next x (next y last)) up place i h in
        let hs = rows_below c k t (next x (next y last)) up place i h in
        let gs = lows_below c k t (next x (next y last)) i g in
        let hx = rows_first c x (next y last) 0 i hs in
        let hy = rows_first c y last 1 (i + size x) (rows_behind c x (next y last) 0 i hs) in
        let gx = lows_first c x (next y last) i gs in
        let gy = lows_first c y last (i + size x) (lows_behind c x (next y last) i gs) in
        let sx = size_below x in
        let sy = size_below y in
        let many_y = all_rows_many (next y last) 1 in
        let dx : is_dropped c values (i + below x) ≡ true = dropped_is x k (length (nodes_rows 1 (next y last)) + 1) 0 i r ok.1.0 hx gx (omega arith) (omega arith) here.kind_is ∙ q in
        let bx : bare (i + below x) ≡ true = bare_dropped (i + below x) (node_value x) (value_is c values fixed x (length (nodes_rows 1 (next y last)) + 1) 0 i ok.1.0 hx gx (omega arith)) (gives_some k (node_value x) q) dx in
        let low_x = low_here c x i gx in
        let gone : (j : ℕ) → i ≤ j → j < i + length (none_of x) → stays c values j ≡ false = λ j a l'.
        let n = none_many x in
        elim (cases_lt j (i + below x)) [
          | inl s ↦ not_first (is_below c values j) (gives_way c values j) (is_dropped c values j) (below_there j (i + below x) s (omega arith) bx (omega arith))
          | inr s ↦
              let z : i + below x ≡ j = omega arith in
              not_third (is_below c values j) (gives_way c values j) (is_dropped c values j) (subst (λ m. is_dropped c values m ≡ true) z dx)
        ] in
        let not_y : is_dropped c values (i + size x + below y) ≡ false = dropped_is y k 1 1 (i + size x) r ok.1.1.0 hy gy (omega arith) (omega arith) here.kind_is in
        let clear_y : Clear (i + size x + size y) = λ j a b e'. elim (cases_lt j (r + 1)) [
          | inl s ↦
              let z : r ≡ j = omega arith in
              absurd (let f = sym e' ∙ sym (ap bare z) ∙ bare_gives r way d in cc)
          | inr s ↦ let f = clear j s b e' in omega arith
        ] in
        let first : Flags i (none_of x) = along_none (stays c values) (none_of x) i (none_is x) gone in
        let second : Flags (i + size x) (keeps y) = node_flags y 1 1 (i + size x) ok.1.1.0 hy gy (omega arith) clear_y not_y in
        let children : Flags i (none_of x ++ keeps y) = along_both (λ m b. stays c values m ≡ b) (none_of x) (keeps y) i first (subst (λ m. Flags (i + m) (keeps y)) (sym (none_many x)) second) in
        let root : stays c values r ≡ false = not_second (is_below c values r) (gives_way c values r) (is_dropped c values r) way in
        let place_r : i + length (none_of x ++ keeps y) ≡ r = let n = length-append (none_of x) (keeps y) in let n' = none_many x in let n'' = keeps_many y in omega arith in
        along_both (λ m b. stays c values m ≡ b) (none_of x ++ keeps y) (false ∷ []) i children (subst (λ m. stays c values m ≡ false) (sym place_r) root, tt)
    flags_by k t (next x (next y (next z cs))) up place i takes_two e a ok h g l clear d true o q way value kids = absurd a
    flags_by k t cs up place i w e a ok h g l clear d false (Some x) q way value kids =
        let r = i + sizes cs in
        let b : bare r ≡ true = bare_some r (Some x) value refl way in
        let n = all_none_many cs in
        let low_r = low_here c (node k t cs) i g in
        let children : Flags i (none_of_all cs) = along_none (stays c values) (none_of_all cs) i (all_none_are cs) (λ j a l'.
        not_first (is_below c values j) (gives_way c values j) (is_dropped c values j) (below_there j r (omega arith) (omega arith) b (omega arith))) in
        along_both (λ m b. stays c values m ≡ b) (none_of_all cs) (true ∷ []) i children (subst (λ m. stays c values (i + m) ≡ true) (sym n) (root_stays r (omega arith) clear way d), tt)
    flags_by k t cs up place i w e a ok h g l clear d false None q way value kids =
        let r = i + sizes cs in
        let n = keeps_all_many cs in
        let here = row_here c k t cs up place i h in
        let clear_r : Clear r = λ j a b e'. elim (cases_lt j (r + 1)) [
          | inl s ↦
              let z : r ≡ j = omega arith in
              absurd (let f = sym e' ∙ sym (ap bare z) ∙ bare_none r value in cc)
          | inr s ↦ let f = clear j s b e' in omega arith
        ] in
        let children : Flags i (keeps_all cs) = kids clear_r (undropped_by k cs w e a q) in
        along_both (λ m b. stays c values m ≡ b) (keeps_all cs) (true ∷ []) i children (subst (λ m. stays c values (i + m) ≡ true) (sym n) (root_stays r (omega arith) clear way d), tt)

    all_flags : (cs : Nodes) (place i r : ℕ) (k : Kind) → AreSound cs → Rows c i (nodes_rows place cs) → Lows c i (nodes_lows i cs) → i + sizes cs ≡ r → r < many c → kind_in c r ≡ k → Clear r → Undropped k place cs
        → Flags i (keeps_all cs)
    all_flags last place i r k ok h g e l q clear und = tt
    all_flags (next x cs) place i r k ok h g e l q clear und =
        let up = length (nodes_rows (place + 1) cs) + 1 in
        let m = all_rows_many cs (place + 1) in
        let s = size_below x in
        let hx = rows_first c x cs place i h in
        let gx = lows_first c x cs i g in
        let hs = rows_behind c x cs place i h in
        let gs = lows_behind c x cs i g in
        let d : is_dropped c values (i + below x) ≡ false = dropped_is x k up place i r ok.0 hx gx (omega arith) (omega arith) q ∙ und.0 in
        let clear_x : Clear (i + size x) = λ j a b e'. elim (cases_lt j r) [
          | inl n ↦ lows_within c cs (i + size x) gs j a (omega arith)
          | inr n ↦ let f = clear j n b e' in omega arith
        ] in
        along_both (λ n b. stays c values n ≡ b) (keeps x) (keeps_all cs) i (node_flags x up place i ok.0 hx gx (omega arith) clear_x d)
        (subst (λ n. Flags (i + n) (keeps_all cs)) (sym (keeps_many x)) (all_flags cs (place + 1) (i + size x) r k ok.1 hs gs (omega arith) l q clear und.1))
