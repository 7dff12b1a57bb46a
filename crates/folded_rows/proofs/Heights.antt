-- Operands are children, and rows have heights.
use Rattle.std.proofs.Common.{◌≡◌, ℕ, zero, suc, ◌+◌, ◌-◌, ◌<◌, ◌≤◌, inl, inr, max, true, false, List, [], ◌∷◌, ◌++◌, length, map, get_or, None, refl, sym, ap, ◌∙◌, subst, arith}
use Rattle.std.proofs.lemmas.Bool.{cases_lt}
use Rattle.std.proofs.lemmas.List.{get_or-map, length-map, length-append, map-append}
use Rattle.source_meaning.specs.declared.kinds.Kind.{Kind}
use Rattle.source_meaning.specs.declared.kinds.Kind.TheVariants.{Program as ProgramKind, And, Or, Binary, Unary}
use Rattle.source_meaning.specs.Ast.{Expr, num, truth, name, call, unary, binary, and, or, assign, Args, no_args, arg, Stmt, var, if_only, if_else, stray_else, while, return, block, eval, print, Stmts, no_stmts, stmt, Param, Program}
use Rattle.source_meaning.specs.Rows.{Row, Node, node, Nodes, last, next, one, node_rows, nodes_rows, expr_node, args_nodes, stmt_node, stmts_nodes, params_nodes, function_node, functions_nodes, program_node, post}
use Rattle.ast_rows.specs.Subtrees.{node_lows, nodes_lows}
use Rattle.folded_rows.specs.Columns.{Columns, columns_of, number_in, many, kind_in, right_of, left_of}
use Rattle.folded_rows.specs.Levels.{levels, args_levels, stmt_levels, stmts_levels, program_levels, is_operator, has_left, is_foldable, AreLinked, AreHeights}
use Rattle.folded_rows.proofs.Along.{Along, along_first, along_rest, along_all}
use Rattle.folded_rows.proofs.Picked.{size, sizes, rows_many, all_rows_many}
use Rattle.folded_rows.proofs.Sound.{Taken, takes_none, takes_one, takes_two, taken, Arity, IsSound, AreSound, program_sound}
use Rattle.folded_rows.proofs.Tables.{below, size_below, Rows, Lows, rows_below, row_here, rows_first, rows_behind, lows_below, low_here, lows_first, lows_behind}

none_operator : (k : Kind) → taken k ≡ takes_none → is_operator k ≡ false
none_operator (Unary op) e = absurd (cc)
none_operator (Binary op) e = absurd (cc)
none_operator And e = absurd (cc)
none_operator Or e = absurd (cc)
none_operator k e = refl

left_two : (k : Kind) → has_left k ≡ true → taken k ≡ takes_two
left_two (Binary op) e = refl
left_two And e = refl
left_two Or e = refl
left_two k e = absurd (cc)

-- ---- heights, with kinds
abbrev mutual
  height_of : Node → ℕ
  height_of (node k t cs) = suc (highest cs)

  highest : Nodes → ℕ
  highest last = 0
  highest (next x cs) = max (height_of x) (highest cs)

abbrev pub Tall : Type 0
Tall = Kind × ℕ

abbrev mutual
  pub talls : Node → List Tall
  talls (node k t cs) = talls_all cs ++ (k, height_of (node k t cs)) ∷ []

  talls_all : Nodes → List Tall
  talls_all last = []
  talls_all (next x cs) = talls x ++ talls_all cs

abbrev no_tall : Tall
no_tall = (ProgramKind, 0)

mutual
  talls_many : (x : Node) → length (talls x) ≡ size x
  talls_many (node k t cs) = length-append (talls_all cs) ((k, height_of (node k t cs)) ∷ []) ∙ ap (λ n. n + 1) (talls_all_many cs)

  talls_all_many : (cs : Nodes) → length (talls_all cs) ≡ sizes cs
  talls_all_many last = refl
  talls_all_many (next x cs) = length-append (talls x) (talls_all cs) ∙ (λ i. talls_many x i + talls_all_many cs i)

mutual
  kinds_tall : (x : Node) (up place : ℕ) → map (λ (r : Row). r.kind) (node_rows up place x) ≡ map (λ (y : Tall). y.0) (talls x)
  kinds_tall (node k t cs) up place =
      map-append (λ (r : Row). r.kind) (nodes_rows 0 cs) (record { kind = k; up = up; token = t; place = place } ∷ [])
      ∙ ap (λ l. l ++ k ∷ []) (all_kinds_tall cs 0)
      ∙ sym (map-append (λ (y : Tall). y.0) (talls_all cs) ((k, height_of (node k t cs)) ∷ []))

  all_kinds_tall : (cs : Nodes) (place : ℕ) → map (λ (r : Row). r.kind) (nodes_rows place cs) ≡ map (λ (y : Tall). y.0) (talls_all cs)
  all_kinds_tall last place = refl
  all_kinds_tall (next x cs) place =
      map-append (λ (r : Row). r.kind) (node_rows (length (nodes_rows (place + 1) cs) + 1) place x) (nodes_rows (place + 1) cs)
      ∙ (λ i. kinds_tall x (length (nodes_rows (place + 1) cs) + 1) place i ++ all_kinds_tall cs (place + 1) i)
      ∙ sym (map-append (λ (y : Tall). y.0) (talls x) (talls_all cs))

module _ (c : Columns) where
  parent_here : (x : Node) (up place i : ℕ) → Rows c i (node_rows up place x) → number_in c.parents (i + below x) ≡ i + below x + up
  parent_here (node k t cs) up place i h = (row_here c k t cs up place i h).parent_is

  abbrev IsLinked : ℕ → Type 0
  IsLinked k = (is_operator (kind_in c k) ≡ true → number_in c.parents (right_of c k) ≡ k) × (has_left (kind_in c k) ≡ true → number_in c.parents (left_of c k) ≡ k)

  linked_by : (k : Kind) (cs : Nodes) (i r : ℕ) (w : Taken) → taken k ≡ w → Arity w cs → Rows c i (nodes_rows 0 cs) → Lows c i (nodes_lows i cs) → r ≡ i + sizes cs → kind_in c r ≡ k → IsLinked r
  linked_by k cs i r takes_none e a h g q here =
      let f : is_operator (kind_in c r) ≡ false = ap is_operator here ∙ none_operator k e in
      (λ t. absurd (let x = sym f ∙ t in cc), λ t. absurd (let x = sym e ∙ left_two k (sym (ap has_left here) ∙ t) in cc))
  linked_by k last i r takes_one e a h g q here = absurd a
  linked_by k (next x last) i r takes_one e a h g q here =
      let s = size_below x in
      let z : right_of c r ≡ i + below x = omega arith in
      (λ t. ap (number_in c.parents) z ∙ parent_here x 1 0 i (rows_first c x last 0 i h) ∙ omega arith, λ t. absurd (let y = sym e ∙ left_two k (sym (ap has_left here) ∙ t) in cc))
  linked_by k (next x (next y cs)) i r takes_one e a h g q here = absurd a
  linked_by k last i r takes_two e a h g q here = absurd a
  linked_by k (next x last) i r takes_two e a h g q here = absurd a
  linked_by k (next x (next y last)) i r takes_two e a h g q here =
      let sx = size_below x in
      let sy = size_below y in
      let n = all_rows_many (next y last) 1 in
      let z : r - 1 ≡ i + size x + below y = omega arith in
      let hy = rows_first c y last 1 (i + size x) (rows_behind c x (next y last) 0 i h) in
      let gy = lows_first c y last (i + size x) (lows_behind c x (next y last) i g) in
      let l = ap (number_in c.lows) z ∙ low_here c y (i + size x) gy in
      let z' : left_of c r ≡ i + below x = omega arith in
      (λ t. ap (number_in c.parents) z ∙ parent_here y 1 1 (i + size x) hy ∙ omega arith, λ t. ap (number_in c.parents) z' ∙ parent_here x (length (nodes_rows 1 (next y last)) + 1) 0 i (rows_first c x (next y last) 0 i h) ∙ omega arith)
  linked_by k (next x (next y (next z cs))) i r takes_two e a h g q here = absurd a

  mutual
    pub node_linked : (x : Node) (up place i : ℕ) → IsSound x → Rows c i (node_rows up place x) → Lows c i (node_lows i x) → (j : ℕ) → i ≤ j → j < i + size x → IsLinked j
    node_linked (node k t cs) up place i ok h g j a b = elim (cases_lt j (i + sizes cs)) [
      | inl l ↦ nodes_linked cs 0 i ok.1 (rows_below c k t cs up place i h) (lows_below c k t cs i g) j a l
      | inr l ↦
          let z : i + sizes cs ≡ j = omega arith in
          subst IsLinked z (linked_by k cs i (i + sizes cs) (taken k) refl ok.0 (rows_below c k t cs up place i h) (lows_below c k t cs i g) refl (row_here c k t cs up place i h).kind_is)
    ]

    nodes_linked : (cs : Nodes) (place i : ℕ) → AreSound cs → Rows c i (nodes_rows place cs) → Lows c i (nodes_lows i cs) → (j : ℕ) → i ≤ j → j < i + sizes cs → IsLinked j
    nodes_linked last place i ok h g j a b = absurd (omega arith)
    nodes_linked (next x cs) place i ok h g j a b = elim (cases_lt j (i + size x)) [
      | inl l ↦ node_linked x (length (nodes_rows (place + 1) cs) + 1) place i ok.0 (rows_first c x cs place i h) (lows_first c x cs i g) j a l
      | inr l ↦ nodes_linked cs (place + 1) (i + size x) ok.1 (rows_behind c x cs place i h) (lows_behind c x cs i g) j l (omega arith)
    ]

  -- ---- heights along the rows
  module _ (height : ℕ → ℕ) where
    abbrev HighIs : ℕ → Tall → Type 0
    HighIs k y = height k ≡ y.1

    high_root : (x : Node) (i : ℕ) → Along HighIs i (talls x) → height (i + below x) ≡ height_of x
    high_root (node k t cs) i h = subst (λ n. height (i + n) ≡ height_of (node k t cs)) (talls_all_many cs) (along_rest HighIs (talls_all cs) ((k, height_of (node k t cs)) ∷ []) i h).0

    mutual
      node_rises : (x : Node) (up place i : ℕ) → Rows c i (node_rows up place x) → Along HighIs i (talls x) → (j : ℕ) → i ≤ j → j < i + below x → height j < height (number_in c.parents j)
      node_rises (node k t cs) up place i h g j a b =
          nodes_rise cs 0 i (i + sizes cs) (highest cs) (rows_below c k t cs up place i h) (along_first HighIs (talls_all cs) ((k, height_of (node k t cs)) ∷ []) i g) refl (high_root (node k t cs) i g) (omega arith) j a b

      nodes_rise : (cs : Nodes) (place i r m : ℕ) → Rows c i (nodes_rows place cs) → Along HighIs i (talls_all cs) → i + sizes cs ≡ r → height r ≡ suc m → highest cs ≤ m → (j : ℕ) → i ≤ j → j < r → height j < height (number_in c.parents j)
      nodes_rise last place i r m h g e top l j a b = absurd (omega arith)
      nodes_rise (next x cs) place i r m h g e top l j a b =
          let s = size_below x in
          let up = length (nodes_rows (place + 1) cs) + 1 in
          let n = all_rows_many cs (place + 1) in
          let hx = rows_first c x cs place i h in
          let gx = along_first HighIs (talls x) (talls_all cs) i g in
          let gs : Along HighIs (i + size x) (talls_all cs) = subst (λ q. Along HighIs (i + q) (talls_all cs)) (talls_many x) (along_rest HighIs (talls x) (talls_all cs) i g) in
          elim (cases_lt j (i + below x)) [
            | inl p ↦ node_rises x up place i hx gx j a p
            | inr p ↦ elim (cases_lt j (i + size x)) [
              | inl q ↦
                  let z : i + below x ≡ j = omega arith in
                  let self = high_root x i gx in
                  let parent : number_in c.parents (i + below x) ≡ r = parent_here x up place i hx ∙ omega arith in
                  let t = ap height parent in
                  subst (λ k. height k < height (number_in c.parents k)) z (omega arith)
              | inr q ↦ nodes_rise cs (place + 1) (i + size x) r m (rows_behind c x cs place i h) gs (omega arith) top (omega arith) j q b
            ]
          ]

-- ---- heights are levels
abbrev Fits : ℕ → List Tall → Type 0
Fits n [] = Unit {0}
Fits n (y ∷ ys) = (is_foldable y.0 ≡ true → (0 < y.1) × (y.1 ≤ n)) × Fits n ys

fits_both : (n : ℕ) (xs ys : List Tall) → Fits n xs → Fits n ys → Fits n (xs ++ ys)
fits_both n [] ys h k = k
fits_both n (x ∷ xs) ys h k = (h.0, fits_both n xs ys h.1 k)

fits_at : (n : ℕ) (xs : List Tall) (k : ℕ) → Fits n xs → k < length xs → is_foldable (get_or xs k no_tall).0 ≡ true → (0 < (get_or xs k no_tall).1) × ((get_or xs k no_tall).1 ≤ n)
fits_at n [] k h l e = absurd (omega arith)
fits_at n (x ∷ xs) zero h l e = h.0 e
fits_at n (x ∷ xs) (suc k) h l e = fits_at n xs k h.1 (omega arith) e

mutual
  expr_height : (e : Expr) → height_of (expr_node e) ≡ levels e
  expr_height (num at v) = refl
  expr_height (truth at b) = refl
  expr_height (name at x) = refl
  expr_height (call at f es) = ap suc (args_height es)
  expr_height (unary at op a) = let h = expr_height a in omega arith
  expr_height (binary at op a b) = let h = expr_height a in let k = expr_height b in omega arith
  expr_height (and at a b) = let h = expr_height a in let k = expr_height b in omega arith
  expr_height (or at a b) = let h = expr_height a in let k = expr_height b in omega arith
  expr_height (assign at a b) = let h = expr_height a in let k = expr_height b in omega arith

  args_height : (es : Args) → highest (args_nodes es) ≡ args_levels es
  args_height no_args = refl
  args_height (arg e es) = λ i. max (expr_height e i) (args_height es i)

-- siblings and their parent, whatever its height
fits_one : (n : ℕ) (k : Kind) (x : ℕ) (xs : List Tall) → Fits n xs → (is_foldable k ≡ true → (0 < x) × (x ≤ n)) → Fits n ((xs ++ []) ++ (k, x) ∷ [])
fits_one n k x xs h e = fits_both n (xs ++ []) ((k, x) ∷ []) (fits_both n xs [] h tt) (e, tt)

fits_two : (n : ℕ) (k : Kind) (x : ℕ) (xs ys : List Tall) → Fits n xs → Fits n ys → (is_foldable k ≡ true → (0 < x) × (x ≤ n)) → Fits n ((xs ++ (ys ++ [])) ++ (k, x) ∷ [])
fits_two n k x xs ys h g e = fits_both n (xs ++ (ys ++ [])) ((k, x) ∷ []) (fits_both n xs (ys ++ []) h (fits_both n ys [] g tt)) (e, tt)

mutual
  expr_fits : (e : Expr) (n : ℕ) → levels e ≤ n → Fits n (talls (expr_node e))
  expr_fits (num at v) n l = (λ e. (omega arith, l), tt)
  expr_fits (truth at b) n l = (λ e. (omega arith, l), tt)
  expr_fits (name at x) n l = (λ e. absurd (cc), tt)
  expr_fits (call at f es) n l = fits_both n (talls_all (args_nodes es)) _ (args_fit es n (omega arith)) (λ e. absurd (cc), tt)
  expr_fits (unary at op a) n l = let h = expr_height (unary at op a) in fits_one n (Unary op) (height_of (expr_node (unary at op a))) (talls (expr_node a)) (expr_fits a n (omega arith)) (λ e. (omega arith, omega arith))
  expr_fits (binary at op a b) n l =
      let h = expr_height (binary at op a b) in
      fits_two n (Binary op) (height_of (expr_node (binary at op a b))) (talls (expr_node a)) (talls (expr_node b)) (expr_fits a n (omega arith)) (expr_fits b n (omega arith)) (λ e. (omega arith, omega arith))
  expr_fits (and at a b) n l =
      let h = expr_height (and at a b) in
      fits_two n And (height_of (expr_node (and at a b))) (talls (expr_node a)) (talls (expr_node b)) (expr_fits a n (omega arith)) (expr_fits b n (omega arith)) (λ e. (omega arith, omega arith))
  expr_fits (or at a b) n l =
      let h = expr_height (or at a b) in
      fits_two n Or (height_of (expr_node (or at a b))) (talls (expr_node a)) (talls (expr_node b)) (expr_fits a n (omega arith)) (expr_fits b n (omega arith)) (λ e. (omega arith, omega arith))
  expr_fits (assign at a b) n l =
      fits_two n _ (height_of (expr_node (assign at a b))) (talls (expr_node a)) (talls (expr_node b)) (expr_fits a n (omega arith)) (expr_fits b n (omega arith)) (λ e. absurd (cc))

  args_fit : (es : Args) (n : ℕ) → args_levels es ≤ n → Fits n (talls_all (args_nodes es))
  args_fit no_args n l = tt
  args_fit (arg e es) n l = fits_both n (talls (expr_node e)) (talls_all (args_nodes es)) (expr_fits e n (omega arith)) (args_fit es n (omega arith))

mutual
  stmt_fits : (s : Stmt) (n : ℕ) → stmt_levels s ≤ n → Fits n (talls (stmt_node s))
  stmt_fits (var at x ty e) n l = fits_one n _ _ (talls (expr_node e)) (expr_fits e n l) (λ e. absurd (cc))
  stmt_fits (if_only at c a) n l = fits_two n _ _ (talls (expr_node c)) (talls (stmt_node a)) (expr_fits c n (omega arith)) (stmt_fits a n (omega arith)) (λ e. absurd (cc))
  stmt_fits (if_else at c a b) n l =
      fits_both n (talls (expr_node c) ++ (talls (stmt_node a) ++ (talls (stmt_node b) ++ []))) _
      (fits_both n (talls (expr_node c)) _ (expr_fits c n (omega arith)) (fits_both n (talls (stmt_node a)) _ (stmt_fits a n (omega arith)) (fits_both n (talls (stmt_node b)) [] (stmt_fits b n (omega arith)) tt)))
      (λ e. absurd (cc), tt)
  stmt_fits (stray_else at a) n l = fits_one n _ _ (talls (stmt_node a)) (stmt_fits a n l) (λ e. absurd (cc))
  stmt_fits (while at c a) n l = fits_two n _ _ (talls (expr_node c)) (talls (stmt_node a)) (expr_fits c n (omega arith)) (stmt_fits a n (omega arith)) (λ e. absurd (cc))
  stmt_fits (return at e) n l = fits_one n _ _ (talls (expr_node e)) (expr_fits e n l) (λ e. absurd (cc))
  stmt_fits (block at ss) n l = fits_both n (talls_all (stmts_nodes ss)) _ (stmts_fit ss n l) (λ e. absurd (cc), tt)
  stmt_fits (eval e) n l = fits_one n _ _ (talls (expr_node e)) (expr_fits e n l) (λ e. absurd (cc))
  stmt_fits (print at e) n l = fits_one n _ _ (talls (expr_node e)) (expr_fits e n l) (λ e. absurd (cc))

  stmts_fit : (ss : Stmts) (n : ℕ) → stmts_levels ss ≤ n → Fits n (talls_all (stmts_nodes ss))
  stmts_fit no_stmts n l = tt
  stmts_fit (stmt s ss) n l = fits_both n (talls (stmt_node s)) (talls_all (stmts_nodes ss)) (stmt_fits s n (omega arith)) (stmts_fit ss n (omega arith))

params_fit : (qs : List Param) (body : Node) (n : ℕ) → Fits n (talls body) → Fits n (talls_all (params_nodes qs (one body)))
params_fit [] body n h = fits_both n (talls body) [] h tt
params_fit (q ∷ qs) body n h = (λ e. absurd (cc), params_fit qs body n h)

functions_fit : (p : Program) (n : ℕ) → program_levels p ≤ n → Fits n (talls_all (functions_nodes p))
functions_fit [] n l = tt
functions_fit (f ∷ fs) n l =
    fits_both n (talls (function_node f)) (talls_all (functions_nodes fs))
    (fits_both n (talls_all (params_nodes f.params (one (stmt_node f.body)))) _ (params_fit f.params (stmt_node f.body) n (stmt_fits f.body n (omega arith))) (λ e. absurd (cc), tt)) (functions_fit fs n (omega arith))

pub program_fits : (p : Program) → Fits (program_levels p) (talls (program_node p))
program_fits p = fits_both (program_levels p) (talls_all (functions_nodes p)) _ (functions_fit p (program_levels p) (omega arith)) (λ e. absurd (cc), tt)

-- ---- of a program
module _ (p : Program) (rows : Rows (columns_of (post p)) 0 (post p)) (lows : Lows (columns_of (post p)) 0 (node_lows 0 (program_node p))) where
  abbrev columns : Columns
  columns = columns_of (post p)

  columns_many : many columns ≡ size (program_node p)
  columns_many = length-map (post p) (λ (r : Row). r.kind) ∙ rows_many (program_node p) 0 0

  pub program_linked : AreLinked columns
  program_linked k l = let n = columns_many in node_linked columns (program_node p) 0 0 0 (program_sound p) rows lows k (omega arith) (omega arith)

  abbrev pub height_at : ℕ → ℕ
  height_at k = (get_or (talls (program_node p)) k no_tall).1

  high_there : Along (HighIs columns height_at) 0 (talls (program_node p))
  high_there = along_all (HighIs columns height_at) (talls (program_node p)) 0 no_tall (λ k l. ap height_at (let e : 0 + k ≡ k = omega arith in e))

  kind_tall : (k : ℕ) → k < many columns → kind_in columns k ≡ (get_or (talls (program_node p)) k no_tall).0
  kind_tall k l =
      ap (λ q. get_or q k ProgramKind) (kinds_tall (program_node p) 0 0)
      ∙ get_or-map (λ (y : Tall). y.0) (talls (program_node p)) k no_tall ProgramKind (let n = columns_many in let m = talls_many (program_node p) in omega arith)

  pub program_heights : AreHeights columns (program_levels p) height_at
  program_heights =
      let n = columns_many in
      let m = talls_many (program_node p) in
      let s = size_below (program_node p) in
      record {
        rises = λ k l e. elim (cases_lt k (0 + below (program_node p))) [
          | inl q ↦ node_rises columns height_at (program_node p) 0 0 0 rows high_there k (omega arith) q
          | inr q ↦
              let here = row_here columns ProgramKind None (functions_nodes p) 0 0 0 rows in
              let z : 0 + sizes (functions_nodes p) ≡ k = omega arith in
              let up : number_in columns.parents (0 + sizes (functions_nodes p)) ≡ 0 + sizes (functions_nodes p) = here.parent_is ∙ omega arith in
              let kind : kind_in columns (number_in columns.parents k) ≡ ProgramKind = ap (λ j. kind_in columns (number_in columns.parents j)) (sym z) ∙ ap (kind_in columns) up ∙ here.kind_is in
              absurd (let f = sym (ap is_operator kind) ∙ e in cc)
        ];
        stands = λ k l e. (fits_at (program_levels p) (talls (program_node p)) k (program_fits p) (omega arith) (sym (ap is_foldable (kind_tall k l)) ∙ e)).0;
        bounded = λ k l e. (fits_at (program_levels p) (talls (program_node p)) k (program_fits p) (omega arith) (sym (ap is_foldable (kind_tall k l)) ∙ e)).1;
      }
