-- The levels of expressions, and what the columns of rows say of them: this many rounds find all constants.
use Rattle.std.specs.Prelude.{◌≡◌, ℕ, suc, ◌<◌, ◌≤◌, max, Bool, true, false, [], ◌∷◌}
use Rattle.source_meaning.specs.declared.kinds.Kind.{Kind}
use Rattle.source_meaning.specs.declared.kinds.Kind.TheVariants.{And, Or, Binary, Unary, Num, Truth}
use Rattle.source_meaning.specs.Ast.{Expr, num, truth, name, call, unary, binary, and, or, assign, Args, no_args, arg, Stmt, var, if_only, if_else, stray_else, while, return, block, eval, print, Stmts, no_stmts, stmt, Program}
use Rattle.folded_rows.specs.Columns.{Columns, number_in, many, kind_in, right_of, left_of}

-- a leaf has one level, and so has a call without arguments
abbrev mutual
  pub levels : Expr → ℕ
  levels (num at v) = 1
  levels (truth at b) = 1
  levels (name at x) = 1
  levels (call at f es) = suc (args_levels es)
  levels (unary at op a) = suc (levels a)
  levels (binary at op a b) = suc (max (levels a) (levels b))
  levels (and at a b) = suc (max (levels a) (levels b))
  levels (or at a b) = suc (max (levels a) (levels b))
  levels (assign at a b) = suc (max (levels a) (levels b))

  pub args_levels : Args → ℕ
  args_levels no_args = 0
  args_levels (arg e es) = max (levels e) (args_levels es)

-- those of the highest expression
abbrev mutual
  pub stmt_levels : Stmt → ℕ
  stmt_levels (var at x ty e) = levels e
  stmt_levels (if_only at c a) = max (levels c) (stmt_levels a)
  stmt_levels (if_else at c a b) = max (levels c) (max (stmt_levels a) (stmt_levels b))
  stmt_levels (stray_else at a) = stmt_levels a
  stmt_levels (while at c a) = max (levels c) (stmt_levels a)
  stmt_levels (return at e) = levels e
  stmt_levels (block at ss) = stmts_levels ss
  stmt_levels (eval e) = levels e
  stmt_levels (print at e) = levels e

  pub stmts_levels : Stmts → ℕ
  stmts_levels no_stmts = 0
  stmts_levels (stmt s ss) = max (stmt_levels s) (stmts_levels ss)

abbrev pub program_levels : Program → ℕ
program_levels [] = 0
program_levels (f ∷ fs) = max (stmt_levels f.body) (program_levels fs)

-- ---- by columns

-- how many of its children an operator takes, from the last one on
abbrev pub is_operator : Kind → Bool
is_operator (Unary op) = true
is_operator (Binary op) = true
is_operator And = true
is_operator Or = true
is_operator kind = false

abbrev pub has_left : Kind → Bool
has_left (Binary op) = true
has_left And = true
has_left Or = true
has_left kind = false

-- what may be a constant
abbrev pub is_foldable : Kind → Bool
is_foldable (Num v) = true
is_foldable (Truth b) = true
is_foldable kind = is_operator kind

module _ (c : Columns) where
  -- the operands of an operator are its children
  abbrev pub AreLinked : Type 0
  AreLinked =
      (k : ℕ) → k < many c → (is_operator (kind_in c k) ≡ true → number_in c.parents (right_of c k) ≡ k)
      × (has_left (kind_in c k) ≡ true → number_in c.parents (left_of c k) ≡ k)

  -- heights of rows: an operator is higher than its operands, and what may be a constant is at most n high
  pub record AreHeights (n : ℕ) (height : ℕ → ℕ) : Type 0 where
    pub rises : (k : ℕ) → k < many c → is_operator (kind_in c (number_in c.parents k)) ≡ true → height k < height (number_in c.parents k)
    pub stands : (k : ℕ) → k < many c → is_foldable (kind_in c k) ≡ true → 0 < height k
    pub bounded : (k : ℕ) → k < many c → is_foldable (kind_in c k) ≡ true → height k ≤ n
