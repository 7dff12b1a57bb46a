-- The nodes that stay, with new kinds and new numbers, are the nodes of the folded tree.
use Rattle.std.proofs.Common.{◌≡◌, ℕ, suc, ◌+◌, ◌-◌, Bool, true, false, List, [], ◌∷◌, ◌++◌, length, Option, Some, None, refl, sym, ap, ◌∙◌, subst, arith}
use Rattle.std.proofs.lemmas.List.{length-append}
use Rattle.source_meaning.specs.declared.kinds.Kind.{Kind}
use Rattle.source_meaning.specs.declared.kinds.Kind.TheVariants.{And, Or}
use Rattle.source_meaning.specs.Rows.{Node, node, Nodes, last, next, node_rows, nodes_rows}
use Rattle.row_laws.specs.Marks.{Mark, mark, node_marks, nodes_marks}
use Rattle.ast_rows.specs.Subtrees.{node_lows, nodes_lows}
use Rattle.folded_rows.specs.Columns.{constant_by, gives_way_by, kind_by}
use Rattle.folded_rows.specs.Nodes.{node_value, right_value, left_value, none_of, none_of_all, keeps_by, keeps, keeps_last, keeps_all, fold_by, fold_node, fold_last, fold_nodes}
use Rattle.folded_rows.proofs.Along.{Along, along_first, along_rest, pick, pick_both, pick_none, pick_many, bit, trues, trues_none, AreNone, none_both}

-- ---- how many nodes
abbrev mutual
  pub size : Node → ℕ
  size (node k t cs) = sizes cs + 1

  pub sizes : Nodes → ℕ
  sizes last = 0
  sizes (next c cs) = size c + sizes cs

mutual
  pub marks_many : (c : Node) → length (node_marks c) ≡ size c
  marks_many (node k t cs) = length-append (nodes_marks cs) (mark k t (length (nodes_marks cs) + 1) ∷ []) ∙ ap (λ n. n + 1) (all_marks_many cs)

  pub all_marks_many : (cs : Nodes) → length (nodes_marks cs) ≡ sizes cs
  all_marks_many last = refl
  all_marks_many (next c cs) = length-append (node_marks c) (nodes_marks cs) ∙ (λ i. marks_many c i + all_marks_many cs i)

mutual
  pub rows_many : (c : Node) (up place : ℕ) → length (node_rows up place c) ≡ size c
  rows_many (node k t cs) up place = length-append (nodes_rows 0 cs) (record { kind = k; up = up; token = t; place = place } ∷ []) ∙ ap (λ n. n + 1) (all_rows_many cs 0)

  pub all_rows_many : (cs : Nodes) (place : ℕ) → length (nodes_rows place cs) ≡ sizes cs
  all_rows_many last place = refl
  all_rows_many (next c cs) place =
      let rest = nodes_rows (place + 1) cs in
      length-append (node_rows (length rest + 1) place c) rest ∙ (λ i. rows_many c (length rest + 1) place i + all_rows_many cs (place + 1) i)

mutual
  pub lows_many : (c : Node) (i : ℕ) → length (node_lows i c) ≡ size c
  lows_many (node k t cs) i = length-append (nodes_lows i cs) (i ∷ []) ∙ ap (λ n. n + 1) (all_lows_many cs i)

  pub all_lows_many : (cs : Nodes) (i : ℕ) → length (nodes_lows i cs) ≡ sizes cs
  all_lows_many last i = refl
  all_lows_many (next c cs) i =
      let lows = node_lows i c in
      length-append lows (nodes_lows (i + length lows) cs) ∙ (λ j. lows_many c i j + all_lows_many cs (i + length lows) j)

mutual
  pub none_many : (c : Node) → length (none_of c) ≡ size c
  none_many (node k t cs) = length-append (none_of_all cs) (false ∷ []) ∙ ap (λ n. n + 1) (all_none_many cs)

  pub all_none_many : (cs : Nodes) → length (none_of_all cs) ≡ sizes cs
  all_none_many last = refl
  all_none_many (next c cs) = length-append (none_of c) (none_of_all cs) ∙ (λ i. none_many c i + all_none_many cs i)

keeps_by_many : (g : Bool) (o : Option ℕ) (right nothing all : List Bool) (n : ℕ) → length right ≡ n → length nothing ≡ n → length all ≡ n → length (keeps_by g o right nothing all) ≡ n + 1
keeps_by_many true o right nothing all n a b c = length-append right (false ∷ []) ∙ ap (λ m. m + 1) a
keeps_by_many false (Some x) right nothing all n a b c = length-append nothing (true ∷ []) ∙ ap (λ m. m + 1) b
keeps_by_many false None right nothing all n a b c = length-append all (true ∷ []) ∙ ap (λ m. m + 1) c

mutual
  pub keeps_many : (c : Node) → length (keeps c) ≡ size c
  keeps_many (node k t cs) =
      keeps_by_many (gives_way_by k (left_value None None cs)) (constant_by k (left_value None None cs) (right_value None cs)) (keeps_last cs) (none_of_all cs) (keeps_all cs) (sizes cs)
      (keeps_last_many cs) (all_none_many cs) (keeps_all_many cs)

  pub keeps_last_many : (cs : Nodes) → length (keeps_last cs) ≡ sizes cs
  keeps_last_many last = refl
  keeps_last_many (next c last) = let e = keeps_many c in omega arith
  keeps_last_many (next c (next d cs)) = length-append (none_of c) (keeps_last (next d cs)) ∙ (λ i. none_many c i + keeps_last_many (next d cs) i)

  pub keeps_all_many : (cs : Nodes) → length (keeps_all cs) ≡ sizes cs
  keeps_all_many last = refl
  keeps_all_many (next c cs) = length-append (keeps c) (keeps_all cs) ∙ (λ i. keeps_many c i + keeps_all_many cs i)

mutual
  pub none_is : (c : Node) → AreNone (none_of c)
  none_is (node k t cs) = none_both (none_of_all cs) (false ∷ []) (all_none_are cs) (refl, tt)

  pub all_none_are : (cs : Nodes) → AreNone (none_of_all cs)
  all_none_are last = tt
  all_none_are (next c cs) = none_both (none_of c) (none_of_all cs) (none_is c) (all_none_are cs)

-- ---- nothing gives way without a left side, and a kind stays where it is no constant
pub no_left : (k : Kind) → gives_way_by k None ≡ false
no_left And = refl
no_left Or = refl
no_left k = refl

pub kind_stays : (k : Kind) → kind_by k None ≡ k
kind_stays k = refl

-- ---- nodes with what is to be shown of them: kind, own token and first row
abbrev pub Info : Type 0
Info = Kind × Option ℕ × ℕ

-- of a tree whose rows are numbered from i on
abbrev mutual
  pub infos : ℕ → Node → List Info
  infos i (node k t cs) = infos_all i cs ++ (k, t, i) ∷ []

  pub infos_all : ℕ → Nodes → List Info
  infos_all i last = []
  infos_all i (next c cs) = infos i c ++ infos_all (i + size c) cs

-- these are told by the marks
abbrev pub infos_by : ℕ → List Mark → List Info
infos_by i [] = []
infos_by i (m ∷ ms) = (m.kind, m.token, suc i - m.size) ∷ infos_by (suc i) ms

infos_both : (ms ns : List Mark) (i : ℕ) → infos_by i (ms ++ ns) ≡ infos_by i ms ++ infos_by (i + length ms) ns
infos_both [] ns i = ap (λ n. infos_by n ns) (let e : i ≡ i + 0 = omega arith in e)
infos_both (m ∷ ms) ns i = ap (λ l. (m.kind, m.token, suc i - m.size) ∷ l) (infos_both ms ns (suc i) ∙ ap (λ n. infos_by (suc i) ms ++ infos_by n ns) (let e : suc i + length ms ≡ i + suc (length ms) = omega arith in e))

mutual
  pub infos_told : (c : Node) (i : ℕ) → infos i c ≡ infos_by i (node_marks c)
  infos_told (node k t cs) i =
      let n = length (nodes_marks cs) in
      let low : i ≡ suc (i + n) - (n + 1) = omega arith in
      (λ j. infos_all_told cs i j ++ (k, t, low j) ∷ []) ∙ sym (infos_both (nodes_marks cs) (mark k t (n + 1) ∷ []) i)

  infos_all_told : (cs : Nodes) (i : ℕ) → infos_all i cs ≡ infos_by i (nodes_marks cs)
  infos_all_told last i = refl
  infos_all_told (next c cs) i =
      (λ j. infos_told c i j ++ infos_all_told cs (i + size c) j)
      ∙ ap (λ n. infos_by i (node_marks c) ++ infos_by (i + n) (nodes_marks cs)) (sym (marks_many c))
      ∙ sym (infos_both (node_marks c) (nodes_marks cs) i)

mutual
  pub infos_many : (c : Node) (i : ℕ) → length (infos i c) ≡ size c
  infos_many (node k t cs) i = length-append (infos_all i cs) ((k, t, i) ∷ []) ∙ ap (λ n. n + 1) (infos_all_many cs i)

  infos_all_many : (cs : Nodes) (i : ℕ) → length (infos_all i cs) ≡ sizes cs
  infos_all_many last i = refl
  infos_all_many (next c cs) i = length-append (infos i c) (infos_all (i + size c) cs) ∙ (λ j. infos_many c i j + infos_all_many cs (i + size c) j)

module _ (rank : ℕ → ℕ) where
  -- new kinds, own tokens, and new numbers of first rows, of all nodes
  abbrev mutual
    pub olds : ℕ → Node → List Info
    olds i (node k t cs) = olds_all i cs ++ (kind_by k (node_value (node k t cs)), t, rank i) ∷ []

    pub olds_all : ℕ → Nodes → List Info
    olds_all i last = []
    olds_all i (next c cs) = olds i c ++ olds_all (i + size c) cs

  mutual
    pub olds_many : (c : Node) (i : ℕ) → length (olds i c) ≡ size c
    olds_many (node k t cs) i = length-append (olds_all i cs) ((kind_by k (node_value (node k t cs)), t, rank i) ∷ []) ∙ ap (λ n. n + 1) (olds_all_many cs i)

    pub olds_all_many : (cs : Nodes) (i : ℕ) → length (olds_all i cs) ≡ sizes cs
    olds_all_many last i = refl
    olds_all_many (next c cs) i = length-append (olds i c) (olds_all (i + size c) cs) ∙ (λ j. olds_many c i j + olds_all_many cs (i + size c) j)

  -- the rank goes along with the flags
  abbrev pub Ranked : ℕ → List Bool → Type 0
  Ranked i bs = Along (λ k b. rank (k + 1) ≡ rank k + bit b) i bs

  ranked_sum : (bs : List Bool) (i : ℕ) → Ranked i bs → rank (i + length bs) ≡ rank i + trues bs
  ranked_sum [] i h = ap rank (let e : i + 0 ≡ i = omega arith in e) ∙ omega arith
  ranked_sum (b ∷ bs) i h = let e = ranked_sum bs (i + 1) h.1 in ap rank (let z : i + suc (length bs) ≡ (i + 1) + length bs = omega arith in z) ∙ omega (arith, e, h.0)

  -- behind a node
  ranked_behind : (c : Node) (i : ℕ) → Ranked i (keeps c) → pick (keeps c) (olds i c) ≡ infos (rank i) (fold_node c) → rank (i + size c) ≡ rank i + size (fold_node c)
  ranked_behind c i h is =
      let n : trues (keeps c) ≡ size (fold_node c) = sym (pick_many (keeps c) (olds i c) (keeps_many c ∙ sym (olds_many c i))) ∙ ap length is ∙ infos_many (fold_node c) (rank i) in
      ap (λ m. rank (i + m)) (sym (keeps_many c)) ∙ ranked_sum (keeps c) i h ∙ ap (λ m. rank i + m) n

  by_kind : (k : Kind) (t : Option ℕ) (cs : Nodes) (i : ℕ) (g : Bool) (o : Option ℕ) → gives_way_by k (left_value None None cs) ≡ g → Ranked i (keeps_by g o (keeps_last cs) (none_of_all cs) (keeps_all cs))
      → ((c : Node) (ds : Nodes) → cs ≡ next c ds → Ranked i (keeps_last cs) → pick (keeps_last cs) (olds_all i cs) ≡ infos (rank i) (fold_last cs))
      → (Ranked i (keeps_all cs) → pick (keeps_all cs) (olds_all i cs) ≡ infos_all (rank i) (fold_nodes cs))
      → pick (keeps_by g o (keeps_last cs) (none_of_all cs) (keeps_all cs)) (olds_all i cs ++ (kind_by k o, t, rank i) ∷ []) ≡ infos (rank i) (fold_by g o k t (fold_last cs) (fold_nodes cs))
  by_kind k t last i true o e h right all = absurd (let f = sym e ∙ no_left k in cc)
  by_kind k t (next c ds) i true o e h right all =
      pick_both (keeps_last (next c ds)) (false ∷ []) (olds_all i (next c ds)) ((kind_by k o, t, rank i) ∷ []) (keeps_last_many (next c ds) ∙ sym (olds_all_many (next c ds) i))
      ∙ append_nil (pick (keeps_last (next c ds)) (olds_all i (next c ds)))
      ∙ right c ds refl (along_first (λ n b. rank (n + 1) ≡ rank n + bit b) (keeps_last (next c ds)) (false ∷ []) i h)
    where
      append_nil : (xs : List Info) → xs ++ [] ≡ xs
      append_nil [] = refl
      append_nil (x ∷ xs) = ap (λ l. x ∷ l) (append_nil xs)
  by_kind k t cs i false (Some x) e h right all =
      pick_both (none_of_all cs) (true ∷ []) (olds_all i cs) ((kind_by k (Some x), t, rank i) ∷ []) (all_none_many cs ∙ sym (olds_all_many cs i))
      ∙ ap (λ l. l ++ (kind_by k (Some x), t, rank i) ∷ []) (pick_none (none_of_all cs) (olds_all i cs) (all_none_are cs))
  by_kind k t cs i false None e h right all =
      pick_both (keeps_all cs) (true ∷ []) (olds_all i cs) ((kind_by k None, t, rank i) ∷ []) (keeps_all_many cs ∙ sym (olds_all_many cs i))
      ∙ (λ j. all (along_first (λ n b. rank (n + 1) ≡ rank n + bit b) (keeps_all cs) (true ∷ []) i h) j ++ (kind_stays k j, t, rank i) ∷ [])

  mutual
    pub node_picked : (c : Node) (i : ℕ) → Ranked i (keeps c) → pick (keeps c) (olds i c) ≡ infos (rank i) (fold_node c)
    node_picked (node k t cs) i h =
        by_kind k t cs i (gives_way_by k (left_value None None cs)) (constant_by k (left_value None None cs) (right_value None cs)) refl h
        (λ c ds e. last_picked cs i c ds e) (all_picked cs i)

    last_picked : (cs : Nodes) (i : ℕ) (c : Node) (ds : Nodes) → cs ≡ next c ds → Ranked i (keeps_last cs) → pick (keeps_last cs) (olds_all i cs) ≡ infos (rank i) (fold_last cs)
    last_picked last i c ds e h = absurd (cc)
    last_picked (next c' last) i c ds e h = ap (pick (keeps c')) (append_nil (olds i c')) ∙ node_picked c' i h
      where
        append_nil : (xs : List Info) → xs ++ [] ≡ xs
        append_nil [] = refl
        append_nil (x ∷ xs) = ap (λ l. x ∷ l) (append_nil xs)
    last_picked (next c' (next d cs)) i c ds e h =
        let more = last_picked (next d cs) (i + size c') d cs refl (subst (λ n. Ranked (i + n) (keeps_last (next d cs))) (none_many c') (along_rest (λ n b. rank (n + 1) ≡ rank n + bit b) (none_of c') (keeps_last (next d cs)) i h)) in
        let r : rank (i + size c') ≡ rank i = ap (λ n. rank (i + n)) (sym (none_many c')) ∙ ranked_sum (none_of c') i (along_first (λ n b. rank (n + 1) ≡ rank n + bit b) (none_of c') (keeps_last (next d cs)) i h) ∙ ap (λ n. rank i + n) (trues_none (none_of c') (none_is c')) ∙ omega arith in
        pick_both (none_of c') (keeps_last (next d cs)) (olds i c') (olds_all (i + size c') (next d cs)) (none_many c' ∙ sym (olds_many c' i))
        ∙ ap (λ l. l ++ pick (keeps_last (next d cs)) (olds_all (i + size c') (next d cs))) (pick_none (none_of c') (olds i c') (none_is c'))
        ∙ more
        ∙ ap (λ n. infos n (fold_last (next d cs))) r

    all_picked : (cs : Nodes) (i : ℕ) → Ranked i (keeps_all cs) → pick (keeps_all cs) (olds_all i cs) ≡ infos_all (rank i) (fold_nodes cs)
    all_picked last i h = refl
    all_picked (next c cs) i h =
        let first = along_first (λ n b. rank (n + 1) ≡ rank n + bit b) (keeps c) (keeps_all cs) i h in
        let one = node_picked c i first in
        let more = all_picked cs (i + size c) (subst (λ n. Ranked (i + n) (keeps_all cs)) (keeps_many c) (along_rest (λ n b. rank (n + 1) ≡ rank n + bit b) (keeps c) (keeps_all cs) i h)) in
        pick_both (keeps c) (keeps_all cs) (olds i c) (olds_all (i + size c) cs) (keeps_many c ∙ sym (olds_many c i))
        ∙ (λ j. one j ++ more j)
        ∙ ap (λ n. infos (rank i) (fold_node c) ++ infos_all n (fold_nodes cs)) (ranked_behind c i first one)
