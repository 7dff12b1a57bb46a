-- Where no operator folds as it stands, nothing is left to fold.
use Rattle.std.proofs.Common.{◌≡◌, ℕ, zero, suc, ◌+◌, ◌-◌, ◌<◌, ◌≤◌, ◌⊎◌, inl, inr, Bool, true, false, List, [], ◌∷◌, length, Option, None, refl, sym, ap, ◌∙◌, arith}
use Rattle.std.specs.Prelude.{◌&&◌, if◌then◌else◌}
use Rattle.std.specs.List.{range_with_len, filter}
use Rattle.source_meaning.specs.declared.kinds.Kind.{Kind}
use Rattle.source_meaning.specs.declared.kinds.Kind.TheVariants.{Program as ProgramKind, And, Or, Binary, Unary}
use Rattle.source_meaning.specs.Ast.{Expr, num, truth, name, call, unary, binary, and, or, assign, Args, no_args, arg, Stmt, var, if_only, if_else, stray_else, while, return, block, eval, print, Stmts, no_stmts, stmt, Param, Program}
use Rattle.source_meaning.specs.Rows.{Node, node, Nodes, last, next, one, node_rows, nodes_rows, expr_node, args_nodes, stmt_node, stmts_nodes, params_nodes, functions_nodes}
use Rattle.ast_rows.specs.Subtrees.{node_lows, nodes_lows}
use Rattle.folding.specs.Folding.{constant}
use Rattle.folding.specs.Complete.{IsComplete, AreComplete, IsCompleteStmt, AreCompleteStmts, IsCompleteProgram}
use Rattle.folded_rows.specs.Columns.{Columns, folds, folds_by, is_literal, kind_in, left_of, many, number_in, right_of}
use Rattle.folded_rows.proofs.Picked.{size, sizes, all_rows_many}
use Rattle.folded_rows.proofs.Sound.{Taken, takes_none, takes_one, takes_two, taken, Arity, IsSound, AreSound}
use Rattle.folded_rows.proofs.Tables.{below, size_below, Rows, Lows, rows_below, row_here, rows_first, rows_behind, lows_below, low_here, lows_first, lows_behind}

-- ---- what is not among those that pass a test
pub none_pass : (test : ℕ → Bool) (i n : ℕ) → filter test (range_with_len i n) ≡ [] → (k : ℕ) → k < n → test (i + k) ≡ false
none_pass test i zero e k h = absurd (omega arith)
none_pass test i (suc n) e k h = by (test i) refl (none_pass test (i + 1) n) k h
  where
    by : (b : Bool) → test i ≡ b → (filter test (range_with_len (i + 1) n) ≡ [] → (k : ℕ) → k < n → test ((i + 1) + k) ≡ false) → (k : ℕ) → k < suc n → test (i + k) ≡ false
    by true q rest k h = absurd (let z = sym (ap (λ b. if b then i ∷ filter test (range_with_len (i + 1) n) else filter test (range_with_len (i + 1) n)) q) ∙ e in cc)
    by false q rest zero h = ap test (let z : i + 0 ≡ i = omega arith in z) ∙ q
    by false q rest (suc k) h =
        ap test (let z : i + suc k ≡ (i + 1) + k = omega arith in z)
        ∙ rest (sym (ap (λ b. if b then i ∷ filter test (range_with_len (i + 1) n) else filter test (range_with_len (i + 1) n)) q) ∙ e) k (omega arith)

-- ---- nodes, none of which folds as it stands
abbrev root : Node → Kind
root (node k t cs) = k

abbrev right_kind : Kind → Nodes → Kind
right_kind y last = y
right_kind y (next c cs) = right_kind (root c) cs

abbrev left_kind : Kind → Kind → Nodes → Kind
left_kind x y last = x
left_kind x y (next c cs) = left_kind y (root c) cs

abbrev mutual
  pub IsDone : Node → Type 0
  IsDone (node k t cs) = (folds_by k (is_literal (left_kind ProgramKind ProgramKind cs)) (is_literal (right_kind ProgramKind cs)) ≡ false) × AreDone cs

  pub AreDone : Nodes → Type 0
  AreDone last = Unit {0}
  AreDone (next c cs) = IsDone c × AreDone cs

none_folds : (k : Kind) (l r : Bool) → taken k ≡ takes_none → folds_by k l r ≡ false
none_folds (Unary op) l r e = absurd (cc)
none_folds (Binary op) l r e = absurd (cc)
none_folds And l r e = absurd (cc)
none_folds Or l r e = absurd (cc)
none_folds k l r e = refl

one_folds : (k : Kind) (l r m : Bool) → taken k ≡ takes_one → folds_by k l r ≡ folds_by k m r
one_folds (Binary op) l r m e = absurd (cc)
one_folds And l r m e = absurd (cc)
one_folds Or l r m e = absurd (cc)
one_folds k l r m e = refl

module _ (c : Columns) where
  root_is : (x : Node) (up place i : ℕ) → Rows c i (node_rows up place x) → kind_in c (i + below x) ≡ root x
  root_is (node k t cs) up place i h = (row_here c k t cs up place i h).kind_is

  folds_is : (k : Kind) (cs : Nodes) (i r : ℕ) (w : Taken) → taken k ≡ w → Arity w cs → Rows c i (nodes_rows 0 cs) → Lows c i (nodes_lows i cs) → r ≡ i + sizes cs
      → folds_by k (is_literal (kind_in c (left_of c r))) (is_literal (kind_in c (right_of c r))) ≡ folds_by k (is_literal (left_kind ProgramKind ProgramKind cs)) (is_literal (right_kind ProgramKind cs))
  folds_is k cs i r takes_none e a h g q = none_folds k _ _ e ∙ sym (none_folds k _ _ e)
  folds_is k last i r takes_one e a h g q = absurd a
  folds_is k (next x last) i r takes_one e a h g q =
      let s = size_below x in
      let z : right_of c r ≡ i + below x = omega arith in
      let right = ap (kind_in c) z ∙ root_is x 1 0 i (rows_first c x last 0 i h) in
      one_folds k (is_literal (kind_in c (left_of c r))) (is_literal (kind_in c (right_of c r))) (is_literal ProgramKind) e ∙ ap (λ y. folds_by k (is_literal ProgramKind) (is_literal y)) right
  folds_is k (next x (next y cs)) i r takes_one e a h g q = absurd a
  folds_is k last i r takes_two e a h g q = absurd a
  folds_is k (next x last) i r takes_two e a h g q = absurd a
  folds_is k (next x (next y last)) i r takes_two e a h g q =
      let sx = size_below x in
      let sy = size_below y in
      let z : r - 1 ≡ i + size x + below y = omega arith in
      let l = ap (number_in c.lows) z ∙ low_here c y (i + size x) (lows_first c y last (i + size x) (lows_behind c x (next y last) i g)) in
      let z' : left_of c r ≡ i + below x = omega arith in
      let left = ap (kind_in c) z' ∙ root_is x (length (nodes_rows 1 (next y last)) + 1) 0 i (rows_first c x (next y last) 0 i h) in
      let right = ap (kind_in c) z ∙ root_is y 1 1 (i + size x) (rows_first c y last 1 (i + size x) (rows_behind c x (next y last) 0 i h)) in
      λ j. folds_by k (is_literal (left j)) (is_literal (right j))
  folds_is k (next x (next y (next z cs))) i r takes_two e a h g q = absurd a

  module _ (none : (k : ℕ) → k < many c → folds c k ≡ false) where
    mutual
      pub node_done : (x : Node) (up place i : ℕ) → IsSound x → Rows c i (node_rows up place x) → Lows c i (node_lows i x) → i + size x ≤ many c → IsDone x
      node_done (node k t cs) up place i ok h g l =
          let r = i + sizes cs in
          let here = (row_here c k t cs up place i h).kind_is in
          let hs = rows_below c k t cs up place i h in
          let gs = lows_below c k t cs i g in (
            sym (folds_is k cs i (i + sizes cs) (taken k) refl ok.0 hs gs refl)
                ∙ ap (λ y. folds_by y (is_literal (kind_in c (left_of c (i + sizes cs)))) (is_literal (kind_in c (right_of c (i + sizes cs))))) (sym here)
                ∙ none (i + sizes cs) (omega arith),
            nodes_done cs 0 i ok.1 hs gs (omega arith),
          )

      nodes_done : (cs : Nodes) (place i : ℕ) → AreSound cs → Rows c i (nodes_rows place cs) → Lows c i (nodes_lows i cs) → i + sizes cs ≤ many c → AreDone cs
      nodes_done last place i ok h g l = tt
      nodes_done (next x cs) place i ok h g l = (
        node_done x (length (nodes_rows (place + 1) cs) + 1) place i ok.0 (rows_first c x cs place i h) (lows_first c x cs i g) (omega arith),
        nodes_done cs (place + 1) (i + size x) ok.1 (rows_behind c x cs place i h) (lows_behind c x cs i g) (omega arith),
      )

-- ---- programs
constant_none : (e : Expr) → is_literal (root (expr_node e)) ≡ false → constant e ≡ None
constant_none (num at v) h = absurd (cc)
constant_none (truth at b) h = absurd (cc)
constant_none (name at x) h = refl
constant_none (call at f es) h = refl
constant_none (unary at op a) h = refl
constant_none (binary at op a b) h = refl
constant_none (and at a b) h = refl
constant_none (or at a b) h = refl
constant_none (assign at a b) h = refl

one_none : (a b : Expr) (x y : Bool) → is_literal (root (expr_node b)) ≡ x → is_literal (root (expr_node a)) ≡ y → (x && y) ≡ false → (constant a ≡ None) ⊎ (constant b ≡ None)
one_none a b true y h g e = inl (constant_none a (g ∙ e))
one_none a b false y h g e = inr (constant_none b h)

mutual
  expr_complete : (e : Expr) → IsDone (expr_node e) → IsComplete e
  expr_complete (num at v) h = tt
  expr_complete (truth at b) h = tt
  expr_complete (name at x) h = tt
  expr_complete (call at f es) h = args_complete es h.1
  expr_complete (unary at op a) h = (expr_complete a h.1.0, constant_none a h.0)
  expr_complete (binary at op a b) h = (expr_complete a h.1.0, expr_complete b h.1.1.0, one_none a b _ _ refl refl h.0)
  expr_complete (and at a b) h = (expr_complete a h.1.0, expr_complete b h.1.1.0, constant_none a h.0)
  expr_complete (or at a b) h = (expr_complete a h.1.0, expr_complete b h.1.1.0, constant_none a h.0)
  expr_complete (assign at a b) h = expr_complete b h.1.1.0

  args_complete : (es : Args) → AreDone (args_nodes es) → AreComplete es
  args_complete no_args h = tt
  args_complete (arg e es) h = (expr_complete e h.0, args_complete es h.1)

mutual
  stmt_complete : (s : Stmt) → IsDone (stmt_node s) → IsCompleteStmt s
  stmt_complete (var at x ty e) h = expr_complete e h.1.0
  stmt_complete (if_only at c a) h = (expr_complete c h.1.0, stmt_complete a h.1.1.0)
  stmt_complete (if_else at c a b) h = (expr_complete c h.1.0, stmt_complete a h.1.1.0, stmt_complete b h.1.1.1.0)
  stmt_complete (stray_else at a) h = stmt_complete a h.1.0
  stmt_complete (while at c a) h = (expr_complete c h.1.0, stmt_complete a h.1.1.0)
  stmt_complete (return at e) h = expr_complete e h.1.0
  stmt_complete (block at ss) h = stmts_complete ss h.1
  stmt_complete (eval e) h = expr_complete e h.1.0
  stmt_complete (print at e) h = expr_complete e h.1.0

  stmts_complete : (ss : Stmts) → AreDone (stmts_nodes ss) → AreCompleteStmts ss
  stmts_complete no_stmts h = tt
  stmts_complete (stmt s ss) h = (stmt_complete s h.0, stmts_complete ss h.1)

body_done : (qs : List Param) (c : Node) → AreDone (params_nodes qs (one c)) → IsDone c
body_done [] c h = h.0
body_done (q ∷ qs) c h = body_done qs c h.1

pub program_complete : (p : Program) → AreDone (functions_nodes p) → IsCompleteProgram p
program_complete [] h = tt
program_complete (f ∷ fs) h = (stmt_complete f.body (body_done f.params (stmt_node f.body) h.0.1), program_complete fs h.1)
