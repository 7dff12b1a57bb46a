-- Trees in which nothing is left to fold: no operator of constants, and no And or Or whose left side is a constant.
use Rattle.std.specs.Prelude.{◌≡◌, ◌⊎◌, [], ◌∷◌, None}
use Rattle.source_meaning.specs.Ast.{Expr, num, truth, name, call, unary, binary, and, or, assign, Args, no_args, arg, Stmt, var, if_only, if_else, stray_else, while, return, block, eval, print, Stmts, no_stmts, stmt, Program}
use Rattle.folding.specs.Folding.{constant}

abbrev mutual
  pub IsComplete : Expr → Type 0
  IsComplete (num at v) = Unit {0}
  IsComplete (truth at b) = Unit {0}
  IsComplete (name at x) = Unit {0}
  IsComplete (call at f es) = AreComplete es
  IsComplete (unary at op a) = IsComplete a × (constant a ≡ None)
  IsComplete (binary at op a b) = IsComplete a × IsComplete b × ((constant a ≡ None) ⊎ (constant b ≡ None))
  IsComplete (and at a b) = IsComplete a × IsComplete b × (constant a ≡ None)
  IsComplete (or at a b) = IsComplete a × IsComplete b × (constant a ≡ None)
  IsComplete (assign at a b) = IsComplete b

  pub AreComplete : Args → Type 0
  AreComplete no_args = Unit {0}
  AreComplete (arg e es) = IsComplete e × AreComplete es

abbrev mutual
  pub IsCompleteStmt : Stmt → Type 0
  IsCompleteStmt (var at x ty e) = IsComplete e
  IsCompleteStmt (if_only at c a) = IsComplete c × IsCompleteStmt a
  IsCompleteStmt (if_else at c a b) = IsComplete c × IsCompleteStmt a × IsCompleteStmt b
  IsCompleteStmt (stray_else at a) = IsCompleteStmt a
  IsCompleteStmt (while at c a) = IsComplete c × IsCompleteStmt a
  IsCompleteStmt (return at e) = IsComplete e
  IsCompleteStmt (block at ss) = AreCompleteStmts ss
  IsCompleteStmt (eval e) = IsComplete e
  IsCompleteStmt (print at e) = IsComplete e

  pub AreCompleteStmts : Stmts → Type 0
  AreCompleteStmts no_stmts = Unit {0}
  AreCompleteStmts (stmt s ss) = IsCompleteStmt s × AreCompleteStmts ss

abbrev pub IsCompleteProgram : Program → Type 0
IsCompleteProgram [] = Unit {0}
IsCompleteProgram (f ∷ fs) = IsCompleteStmt f.body × IsCompleteProgram fs
