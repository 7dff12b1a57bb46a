-- Where two terminals are looked back at, a grammar has one answer: tables, with one number of triples, or one fault.
use Rattle.std.proofs.Common.{◌≡◌, ◌∙◌, ◌⊎◌, inl, inr, ◌<◌, ◌+◌, ◌*◌, ◌/◌, ◌%◌, ℕ, zero, suc, List, Bool, true, false, refl, sym, ap, subst, arith}
use Rattle.std.specs.Prelude.{count_by, get_or}
use Rattle.std.proofs.lemmas.Bool.{cases_order}
use Rattle.std.proofs.Math.Nat.{div-lt_iff_lt-mul, mod-lt}
use Rattle.std.proofs.lemmas.Nat.{div-add-mod'}
use Rattle.std.proofs.lemmas.List.{ext_get_or}
use Rattle.grammar_file.specs.declared.symbols.Symbol.{Symbol}
use Rattle.grammar_file.specs.Grammar.{Grammar}
use Rattle.llp_tables.specs.declared.fault.TableFault.{TableFault}
use Rattle.llp_tables.specs.declared.fault.TableFault.TheVariants as narrow
use Rattle.llp_tables.specs.Cells.{IsBefore}
use Rattle.ll1_sets.specs.Width.{width_of}
use Rattle.ll1_sets.specs.Predict.{IsLl1, IsLeastConflict, IsNotLeftRecursive}
use Rattle.llp_tables.specs.Tables.{IsTableFault}
use Rattle.llp_tables.specs.Laws.StackOrder.{before_cases, before_not_itself, before_trans}
use Rattle.llp_wide.specs.Wide.{IsWideLlp, HasTwoWideMembers, IsLeastWideConflict}
use Rattle.llp_wide.specs.WideEntries.{CountsTriples, triple_place}
use Rattle.llp_wide.specs.WideFaults.{IsWideFault}
use Rattle.llp_wide.specs.declared.fault.WideFault.{WideFault}
use Rattle.llp_wide.specs.declared.fault.WideFault.TheVariants.{LeftRecursive, Ll1, Wide, NoMemory}

-- the least number is one
one_least : (P : ℕ → Type 0) (a b : ℕ) → P a → P b → ((n : ℕ) → n < a → P n → ⊥) → ((n : ℕ) → n < b → P n → ⊥) → a ≡ b
one_least P a b p q below_a below_b = go (cases_order a b)
  where
    go : (a ≡ b) ⊎ ((a < b) ⊎ (b < a)) → a ≡ b
    go (inl e) = e
    go (inr (inl h)) = absurd (below_b a h p)
    go (inr (inr h)) = absurd (below_a b h q)

-- ---- two members

module _ (g : Grammar) where
  members : (z a b : ℕ) (x y : List Symbol) → IsLeastWideConflict g z a b x y → HasTwoWideMembers g z a b
  members z a b x y k = (x, y, (λ e. before_not_itself y (subst (λ w. IsBefore w y) e k.in_order)), k.first_member, k.second_member)

  same_before : (z a b n c d : ℕ) (x y u v : List Symbol) → IsLeastWideConflict g z a b x y → IsLeastWideConflict g n c d u v → z ≡ n
  same_before z a b n c d x y u v k m =
      one_least (λ n. (s t : ℕ) × HasTwoWideMembers g n s t) z n (a, b, members z a b x y k) (c, d, members n c d u v m)
      (λ n h w. k.no_lesser_before n w.0 w.1 h w.2) (λ n h w. m.no_lesser_before n w.0 w.1 h w.2)

  same_back : (z a b c d : ℕ) (x y u v : List Symbol) → IsLeastWideConflict g z a b x y → IsLeastWideConflict g z c d u v → a ≡ c
  same_back z a b c d x y u v k m =
      one_least (λ n. (t : ℕ) × HasTwoWideMembers g z n t) a c (b, members z a b x y k) (d, members z c d u v m)
      (λ n h w. k.no_lesser_look_back n w.0 h w.1) (λ n h w. m.no_lesser_look_back n w.0 h w.1)

  same_ahead : (z a b d : ℕ) (x y u v : List Symbol) → IsLeastWideConflict g z a b x y → IsLeastWideConflict g z a d u v → b ≡ d
  same_ahead z a b d x y u v k m =
      one_least (HasTwoWideMembers g z a) b d (members z a b x y k) (members z a d u v m) k.no_lesser_look_ahead m.no_lesser_look_ahead

  same_least : (z a b : ℕ) (x y u v : List Symbol) → IsLeastWideConflict g z a b x y → IsLeastWideConflict g z a b u v → x ≡ u
  same_least z a b x y u v k m = go (before_cases x u)
    where
      go : (x ≡ u) ⊎ (IsBefore x u ⊎ IsBefore u x) → x ≡ u
      go (inl e) = e
      go (inr (inl h)) = absurd (m.no_lesser_member x k.first_member (λ e. before_not_itself u (subst (λ w. IsBefore w u) e h)) (before_trans x u v h m.in_order))
      go (inr (inr h)) = absurd (k.no_lesser_member u m.first_member (λ e. before_not_itself x (subst (λ w. IsBefore w x) e h)) (before_trans u x y h k.in_order))

  same_next : (z a b : ℕ) (x y v : List Symbol) → IsLeastWideConflict g z a b x y → IsLeastWideConflict g z a b x v → y ≡ v
  same_next z a b x y v k m = go (before_cases y v)
    where
      other : (w : List Symbol) → IsBefore x w → w ≡ x → ⊥
      other w h e = before_not_itself x (subst (IsBefore x) e h)

      go : (y ≡ v) ⊎ (IsBefore y v ⊎ IsBefore v y) → y ≡ v
      go (inl e) = e
      go (inr (inl h)) = absurd (m.no_lesser_member y k.second_member (other y k.in_order) h)
      go (inr (inr h)) = absurd (k.no_lesser_member v m.second_member (other v m.in_order) h)

  one_conflict : (z a b n c d : ℕ) (x y u v : List Symbol) → IsLeastWideConflict g z a b x y → IsLeastWideConflict g n c d u v → Wide z a b x y ≡ Wide n c d u v
  one_conflict z a b n c d x y u v k m =
      let before : z ≡ n = same_before z a b n c d x y u v k m in
      let behind : IsLeastWideConflict g z c d u v = subst (λ n. IsLeastWideConflict g n c d u v) (sym before) m in
      let back : a ≡ c = same_back z a b c d x y u v k behind in
      let here : IsLeastWideConflict g z a d u v = subst (λ c. IsLeastWideConflict g z c d u v) (sym back) behind in
      let ahead : b ≡ d = same_ahead z a b d x y u v k here in
      let there : IsLeastWideConflict g z a b u v = subst (λ d. IsLeastWideConflict g z a d u v) (sym ahead) here in
      let least : x ≡ u = same_least z a b x y u v k there in
      let last : IsLeastWideConflict g z a b x v = subst (λ u. IsLeastWideConflict g z a b u v) (sym least) there in
      let next : y ≡ v = same_next z a b x y v k last in
      (λ i. Wide (before i) (back i) (ahead i) (least i) (next i))

  -- ---- one fault

  not_ll1 : (a b p1 p2 : ℕ) → IsLeastConflict g a b p1 p2 → IsLl1 g → ⊥
  not_ll1 a b p1 p2 k ll1 = let e = ll1 a p1 p2 b k.first k.second in let h = k.in_order in omega arith

  -- the fault that tables have also where one terminal is looked back at
  abbrev widened : TableFault → WideFault
  widened (narrow.LeftRecursive a) = LeftRecursive a
  widened (narrow.Ll1 a b p1 p2) = Ll1 a b p1 p2
  widened (narrow.Llp a b x y) = NoMemory
  widened narrow.NoMemory = NoMemory

  pub one_fault : ((f h : TableFault) → IsTableFault g f → IsTableFault g h → f ≡ h) → (f h : WideFault) → IsWideFault g f → IsWideFault g h → f ≡ h
  one_fault one (LeftRecursive a) (LeftRecursive b) k m = ap widened (one (narrow.LeftRecursive a) (narrow.LeftRecursive b) k m)
  one_fault one (LeftRecursive a) (Ll1 c d q1 q2) k m = absurd (m.0 a k.0)
  one_fault one (LeftRecursive a) (Wide n c d u v) k m = absurd (m.0 a k.0)
  one_fault one (Ll1 a b p1 p2) (LeftRecursive c) k m = absurd (k.0 c m.0)
  one_fault one (Ll1 a b p1 p2) (Ll1 c d q1 q2) k m = ap widened (one (narrow.Ll1 a b p1 p2) (narrow.Ll1 c d q1 q2) k m)
  one_fault one (Ll1 a b p1 p2) (Wide n c d u v) k m = absurd (not_ll1 a b p1 p2 k.1 m.1)
  one_fault one (Wide z a b x y) (LeftRecursive c) k m = absurd (k.0 c m.0)
  one_fault one (Wide z a b x y) (Ll1 c d q1 q2) k m = absurd (not_ll1 c d q1 q2 m.1 k.1)
  one_fault one (Wide z a b x y) (Wide n c d u v) k m = one_conflict z a b n c d x y u v k.2 m.2
  one_fault one NoMemory h k m = absurd k
  one_fault one (LeftRecursive a) NoMemory k m = absurd m
  one_fault one (Ll1 a b p1 p2) NoMemory k m = absurd m
  one_fault one (Wide z a b x y) NoMemory k m = absurd m

  pub fault_or_tables : IsNotLeftRecursive g → (f : WideFault) → IsWideFault g f → IsLl1 g → IsWideLlp g → ⊥
  fault_or_tables straight (LeftRecursive a) k ll1 llp = straight a k.0
  fault_or_tables straight (Ll1 a b p1 p2) k ll1 llp = not_ll1 a b p1 p2 k.1 ll1
  fault_or_tables straight (Wide z a b x y) k ll1 llp =
      before_not_itself y (subst (λ w. IsBefore w y) (llp z a b x y k.2.first_member k.2.second_member) k.2.in_order)
  fault_or_tables straight NoMemory k ll1 llp = k

-- ---- one number of triples

positive : (i w : ℕ) → i < w * w * w → 0 < w
positive i zero h = absurd (let x : i < 0 = h in omega arith)
positive i (suc w) h = omega arith

-- a place below w * w * w is that of a triple
row_of : (i w : ℕ) → i < w * w * w → i / w < w * w
row_of i w h = (div-lt_iff_lt-mul (positive i w h)).1 h

layer_of : (i w : ℕ) → i < w * w * w → i / w / w < w
layer_of i w h = (div-lt_iff_lt-mul (positive i w h)).1 (row_of i w h)

placed : (i w : ℕ) → triple_place w ((i / w) % w) (i % w) (i / w / w) ≡ i
placed i w = ap (λ n. n * w + i % w) (div-add-mod' (i / w) w) ∙ div-add-mod' i w

pub one_count : (g : Grammar) (m n : ℕ) → CountsTriples g m → CountsTriples g n → m ≡ n
one_count g m n j k = j.count ∙ ap (count_by (λ mark. mark)) same ∙ sym k.count
  where
    at_triple : (z a b : ℕ) → z < width_of g → a < width_of g → b < width_of g
        → get_or j.marks (triple_place (width_of g) z a b) false ≡ get_or k.marks (triple_place (width_of g) z a b) false
    at_triple z a b p q r = go (get_or j.marks (triple_place (width_of g) z a b) false) (get_or k.marks (triple_place (width_of g) z a b) false) refl refl
      where
        go : (x y : Bool) → get_or j.marks (triple_place (width_of g) z a b) false ≡ x → get_or k.marks (triple_place (width_of g) z a b) false ≡ y
            → get_or j.marks (triple_place (width_of g) z a b) false ≡ get_or k.marks (triple_place (width_of g) z a b) false
        go true true e f = e ∙ sym f
        go false false e f = e ∙ sym f
        go true false e f = absurd (k.unmarked z a b p q r f (j.marked z a b p q r e))
        go false true e f = absurd (j.unmarked z a b p q r e (k.marked z a b p q r f))

    same : j.marks ≡ k.marks
    same = ext_get_or false j.marks k.marks (j.size ∙ sym k.size) (λ i h.
        let inside : i < width_of g * width_of g * width_of g = subst (λ n. i < n) j.size h in
        let some = positive i (width_of g) inside in
        subst (λ i. get_or j.marks i false ≡ get_or k.marks i false) (placed i (width_of g))
        (at_triple ((i / width_of g) % width_of g) (i % width_of g) (i / width_of g / width_of g) (mod-lt (i / width_of g) some) (mod-lt i some) (layer_of i (width_of g) inside)))
