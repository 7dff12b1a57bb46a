-- Columns along the rows of a tree, and the constants that its nodes are.
use Rattle.std.proofs.Common.{◌≡◌, ℕ, ◌+◌, ◌-◌, ◌<◌, ◌≤◌, inl, inr, List, [], ◌∷◌, length, Option, None, refl, sym, ap, ◌∙◌, subst, arith}
use Rattle.std.proofs.lemmas.Bool.{cases_lt}
use Rattle.source_meaning.specs.declared.kinds.Kind.{Kind}
use Rattle.source_meaning.specs.Rows.{Row, Node, node, Nodes, last, next, node_rows, nodes_rows}
use Rattle.ast_rows.specs.NodeRows.{token_of}
use Rattle.ast_rows.specs.Subtrees.{node_lows, nodes_lows}
use Rattle.folded_rows.specs.Columns.{Columns, constant_by, gives_way_by, number_in, value_in, many, kind_in, right_of, left_of, AreConstants, gives_way}
use Rattle.folded_rows.specs.Nodes.{node_value, right_value, left_value}
use Rattle.folded_rows.proofs.Along.{Along, along_first, along_rest}
use Rattle.folded_rows.proofs.Picked.{size, sizes, rows_many, all_rows_many, lows_many, all_lows_many}
use Rattle.folded_rows.proofs.Sound.{Taken, takes_none, takes_one, takes_two, taken, Arity, IsSound, AreSound, none_taken, one_taken, none_gives, one_gives}

-- how many nodes stand below a node, and so how far its row is from its first one
abbrev pub below : Node → ℕ
below (node k t cs) = sizes cs

pub size_below : (x : Node) → size x ≡ below x + 1
size_below (node k t cs) = refl

module _ (c : Columns) where
  -- the columns have this row
  pub record RowIs (k : ℕ) (r : Row) : Type 0 where
    pub kind_is : kind_in c k ≡ r.kind
    pub parent_is : number_in c.parents k ≡ k + r.up
    pub place_is : number_in c.places k ≡ r.place
    pub token_is : token_of (number_in c.tokens k) ≡ r.token

  abbrev pub Rows : ℕ → List Row → Type 0
  Rows i rs = Along RowIs i rs

  abbrev pub LowIs : ℕ → ℕ → Type 0
  LowIs k l = number_in c.lows k ≡ l

  abbrev pub Lows : ℕ → List ℕ → Type 0
  Lows i ls = Along LowIs i ls

  -- ---- along a node
  pub rows_below : (k : Kind) (t : Option ℕ) (cs : Nodes) (up place i : ℕ) → Rows i (node_rows up place (node k t cs)) → Rows i (nodes_rows 0 cs)
  rows_below k t cs up place i h = along_first RowIs (nodes_rows 0 cs) (record { kind = k; up = up; token = t; place = place } ∷ []) i h

  pub row_here : (k : Kind) (t : Option ℕ) (cs : Nodes) (up place i : ℕ) → Rows i (node_rows up place (node k t cs)) → RowIs (i + sizes cs) (record { kind = k; up = up; token = t; place = place })
  row_here k t cs up place i h =
      subst (λ n. RowIs (i + n) (record { kind = k; up = up; token = t; place = place })) (all_rows_many cs 0)
      (along_rest RowIs (nodes_rows 0 cs) (record { kind = k; up = up; token = t; place = place } ∷ []) i h).0

  pub rows_first : (x : Node) (cs : Nodes) (place i : ℕ) → Rows i (nodes_rows place (next x cs)) → Rows i (node_rows (length (nodes_rows (place + 1) cs) + 1) place x)
  rows_first x cs place i h = along_first RowIs (node_rows (length (nodes_rows (place + 1) cs) + 1) place x) (nodes_rows (place + 1) cs) i h

  pub rows_behind : (x : Node) (cs : Nodes) (place i : ℕ) → Rows i (nodes_rows place (next x cs)) → Rows (i + size x) (nodes_rows (place + 1) cs)
  rows_behind x cs place i h =
      subst (λ n. Rows (i + n) (nodes_rows (place + 1) cs)) (rows_many x (length (nodes_rows (place + 1) cs) + 1) place)
      (along_rest RowIs (node_rows (length (nodes_rows (place + 1) cs) + 1) place x) (nodes_rows (place + 1) cs) i h)

  pub lows_below : (k : Kind) (t : Option ℕ) (cs : Nodes) (i : ℕ) → Lows i (node_lows i (node k t cs)) → Lows i (nodes_lows i cs)
  lows_below k t cs i h = along_first LowIs (nodes_lows i cs) (i ∷ []) i h

  pub low_here : (x : Node) (i : ℕ) → Lows i (node_lows i x) → number_in c.lows (i + below x) ≡ i
  low_here (node k t cs) i h = subst (λ n. LowIs (i + n) i) (all_lows_many cs i) (along_rest LowIs (nodes_lows i cs) (i ∷ []) i h).0

  pub lows_first : (x : Node) (cs : Nodes) (i : ℕ) → Lows i (nodes_lows i (next x cs)) → Lows i (node_lows i x)
  lows_first x cs i h = along_first LowIs (node_lows i x) (nodes_lows (i + length (node_lows i x)) cs) i h

  pub lows_behind : (x : Node) (cs : Nodes) (i : ℕ) → Lows i (nodes_lows i (next x cs)) → Lows (i + size x) (nodes_lows (i + size x) cs)
  lows_behind x cs i h =
      subst (λ n. Lows (i + n) (nodes_lows (i + n) cs)) (lows_many x i) (along_rest LowIs (node_lows i x) (nodes_lows (i + length (node_lows i x)) cs) i h)

  -- no subtree of theirs begins before them
  mutual
    pub lows_within : (cs : Nodes) (i : ℕ) → Lows i (nodes_lows i cs) → (j : ℕ) → i ≤ j → j < i + sizes cs → i ≤ number_in c.lows j
    lows_within last i h j a b = absurd (omega arith)
    lows_within (next x cs) i h j a b = elim (cases_lt j (i + size x)) [
      | inl l ↦ low_within x i (lows_first x cs i h) j a l
      | inr g ↦ omega (arith, lows_within cs (i + size x) (lows_behind x cs i h) j g (omega arith))
    ]

    low_within : (x : Node) (i : ℕ) → Lows i (node_lows i x) → (j : ℕ) → i ≤ j → j < i + size x → i ≤ number_in c.lows j
    low_within (node k t cs) i h j a b = elim (cases_lt j (i + sizes cs)) [
      | inl l ↦ lows_within cs i (lows_below k t cs i h) j a l
      | inr g ↦
          let e : i + sizes cs ≡ j = omega arith in
          let f = ap (number_in c.lows) (sym e) ∙ low_here (node k t cs) i h in
          omega arith
    ]

  module _ (values : List (Option ℕ)) (fixed : AreConstants c values) where
    abbrev v : ℕ → Option ℕ
    v k = value_in values k

    -- the rows of the two children of a node
    left_is : (a b : Node) (r i : ℕ) → r ≡ i + size a + size b → Lows (i + size a) (node_lows (i + size a) b) → left_of c r ≡ i + below a
    left_is a b r i e h =
        let sa = size_below a in
        let sb = size_below b in
        let q : r - 1 ≡ i + size a + below b = omega arith in
        let l = ap (number_in c.lows) q ∙ low_here b (i + size a) h in
        omega arith

    mutual
      pub value_is : (x : Node) (up place i : ℕ) → IsSound x → Rows i (node_rows up place x) → Lows i (node_lows i x) → i + size x ≤ many c → v (i + below x) ≡ node_value x
      value_is (node k t cs) up place i ok h g l =
          fixed (i + sizes cs) (omega arith)
          ∙ ap (λ q. constant_by q (v (left_of c (i + sizes cs))) (v (right_of c (i + sizes cs)))) (row_here k t cs up place i h).kind_is
          ∙ value_by k cs i (taken k) refl ok.0 ok.1 (rows_below k t cs up place i h) (lows_below k t cs i g) (omega arith)

      value_by : (k : Kind) (cs : Nodes) (i : ℕ) (w : Taken) → taken k ≡ w → Arity w cs → AreSound cs → Rows i (nodes_rows 0 cs) → Lows i (nodes_lows i cs) → i + sizes cs ≤ many c
          → constant_by k (v (left_of c (i + sizes cs))) (v (right_of c (i + sizes cs))) ≡ constant_by k (left_value None None cs) (right_value None cs)
      value_by k cs i takes_none e a ok h g l = none_taken k _ _ _ _ e
      value_by k last i takes_one e a ok h g l = absurd a
      value_by k (next x last) i takes_one e a ok h g l =
          let s = size_below x in
          let q : i + sizes (next x last) - 1 ≡ i + below x = omega arith in
          let z : length (nodes_rows 1 last) ≡ 0 = refl in
          one_taken k (v (left_of c (i + sizes (next x last)))) (v (right_of c (i + sizes (next x last)))) None e
          ∙ ap (constant_by k None) (ap v q ∙ value_is x 1 0 i ok.0 (rows_first x last 0 i h) (lows_first x last i g) (omega arith))
      value_by k (next x (next y cs)) i takes_one e a ok h g l = absurd a
      value_by k last i takes_two e a ok h g l = absurd a
      value_by k (next x last) i takes_two e a ok h g l = absurd a
      value_by k (next x (next y last)) i takes_two e a ok h g l =
          let s = size_below y in
          let q : i + sizes (next x (next y last)) - 1 ≡ (i + size x) + below y = omega arith in
          let hx = rows_first x (next y last) 0 i h in
          let hy = rows_first y last 1 (i + size x) (rows_behind x (next y last) 0 i h) in
          let gx = lows_first x (next y last) i g in
          let gy = lows_first y last (i + size x) (lows_behind x (next y last) i g) in
          let left = ap v (left_is x y (i + sizes (next x (next y last))) i (omega arith) gy) ∙ value_is x (length (nodes_rows 1 (next y last)) + 1) 0 i ok.0 hx gx (omega arith) in
          let right = ap v q ∙ value_is y 1 1 (i + size x) ok.1.0 hy gy (omega arith) in
          λ j. constant_by k (left j) (right j)
      value_by k (next x (next y (next z cs))) i takes_two e a ok h g l = absurd a

    -- whether a row gives way
    pub way_is : (k : Kind) (t : Option ℕ) (cs : Nodes) (up place i : ℕ) → IsSound (node k t cs) → Rows i (node_rows up place (node k t cs)) → Lows i (node_lows i (node k t cs)) → i + size (node k t cs) ≤ many c
        → gives_way c values (i + sizes cs) ≡ gives_way_by k (left_value None None cs)
    way_is k t cs up place i ok h g l =
        ap (λ q. gives_way_by q (v (left_of c (i + sizes cs)))) (row_here k t cs up place i h).kind_is
        ∙ way_by k cs i (taken k) refl ok.0 ok.1 (rows_below k t cs up place i h) (lows_below k t cs i g) (omega arith)
      where
        way_by : (k : Kind) (cs : Nodes) (i : ℕ) (w : Taken) → taken k ≡ w → Arity w cs → AreSound cs → Rows i (nodes_rows 0 cs) → Lows i (nodes_lows i cs) → i + sizes cs ≤ many c
            → gives_way_by k (v (left_of c (i + sizes cs))) ≡ gives_way_by k (left_value None None cs)
        way_by k cs i takes_none e a ok h g l = none_gives k _ e ∙ sym (none_gives k _ e)
        way_by k cs i takes_one e a ok h g l = one_gives k _ e ∙ sym (one_gives k _ e)
        way_by k last i takes_two e a ok h g l = absurd a
        way_by k (next x last) i takes_two e a ok h g l = absurd a
        way_by k (next x (next y last)) i takes_two e a ok h g l =
            let gy = lows_first y last (i + size x) (lows_behind x (next y last) i g) in
            let gx = lows_first x (next y last) i g in
            ap (λ q. gives_way_by k (v q)) (left_is x y (i + sizes (next x (next y last))) i (omega arith) gy)
            ∙ ap (gives_way_by k) (value_is x (length (nodes_rows 1 (next y last)) + 1) 0 i ok.0 (rows_first x (next y last) 0 i h) gx (omega arith))
        way_by k (next x (next y (next z cs))) i takes_two e a ok h g l = absurd a
