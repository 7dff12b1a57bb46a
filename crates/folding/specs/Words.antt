-- Programs all of whose numbers are 32-bit words.
use Rattle.std.specs.Prelude.{ℕ, ◌^◌, ◌<◌, [], ◌∷◌}
use Rattle.source_meaning.specs.Ast.{Expr, num, truth, name, call, unary, binary, and, or, assign, Args, no_args, arg, Stmt, var, if_only, if_else, stray_else, while, return, block, eval, print, Stmts, no_stmts, stmt, Program}

abbrev pub IsWord : ℕ → Type 0
IsWord x = x < 2 ^ 32

abbrev mutual
  pub HasWords : Expr → Type 0
  HasWords (num at v) = IsWord v
  HasWords (truth at b) = Unit {0}
  HasWords (name at x) = Unit {0}
  HasWords (call at f es) = ArgsHaveWords es
  HasWords (unary at op a) = HasWords a
  HasWords (binary at op a b) = HasWords a × HasWords b
  HasWords (and at a b) = HasWords a × HasWords b
  HasWords (or at a b) = HasWords a × HasWords b
  HasWords (assign at a b) = HasWords a × HasWords b

  pub ArgsHaveWords : Args → Type 0
  ArgsHaveWords no_args = Unit {0}
  ArgsHaveWords (arg e es) = HasWords e × ArgsHaveWords es

abbrev mutual
  pub StmtHasWords : Stmt → Type 0
  StmtHasWords (var at x ty e) = HasWords e
  StmtHasWords (if_only at c a) = HasWords c × StmtHasWords a
  StmtHasWords (if_else at c a b) = HasWords c × StmtHasWords a × StmtHasWords b
  StmtHasWords (stray_else at a) = StmtHasWords a
  StmtHasWords (while at c a) = HasWords c × StmtHasWords a
  StmtHasWords (return at e) = HasWords e
  StmtHasWords (block at ss) = StmtsHaveWords ss
  StmtHasWords (eval e) = HasWords e
  StmtHasWords (print at e) = HasWords e

  pub StmtsHaveWords : Stmts → Type 0
  StmtsHaveWords no_stmts = Unit {0}
  StmtsHaveWords (stmt s ss) = StmtHasWords s × StmtsHaveWords ss

abbrev pub ProgramHasWords : Program → Type 0
ProgramHasWords [] = Unit {0}
ProgramHasWords (f ∷ fs) = StmtHasWords f.body × ProgramHasWords fs
