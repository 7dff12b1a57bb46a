-- How much is left to do, for the proof that the interpreter ends. Each step that is left weighs more than those that it leaves.
use Rattle.std.specs.Prelude.{ℕ, zero, suc, ◌+◌, max, List, [], ◌∷◌}
use Rattle.source_meaning.specs.Ast.{Expr, num, truth, name, call, unary, binary, and, or, assign, Args, no_args, arg, Stmt, var, if_only, if_else, stray_else, while, return, block, eval, print, Stmts, no_stmts, stmt}
use Rattle.tree_interpreter.specs.Trees.{expr_of, args_of, stmt_of, stmts_of}
use Rattle.tree_interpreter.specs.declared.callees.Callee.{Callee}
use Rattle.tree_interpreter.specs.declared.rests.Rest.{Rest}
use Rattle.tree_interpreter.specs.declared.rests.Rest.TheVariants.{Evaluate, Unary, Right, Binary, And, Or, Store, Argument, Initialize, Discard, RunAll, Declare, Forget, If, IfElse, Turn, Again, Run, Return, Print, Caller}

-- where each call weighs this much, and each loop makes at most this many turns
module _ (calls turns : ℕ) where
  abbrev mutual
    pub expr_weight : Expr → ℕ
    expr_weight (num at v) = 1
    expr_weight (truth at b) = 1
    expr_weight (name at x) = 1
    expr_weight (call at f es) = suc (args_weight es)
    expr_weight (unary at op a) = expr_weight a + 3
    expr_weight (binary at op a b) = expr_weight a + (expr_weight b + 5)
    expr_weight (and at a b) = expr_weight a + (expr_weight b + 3)
    expr_weight (or at a b) = expr_weight a + (expr_weight b + 3)
    expr_weight (assign at a b) = expr_weight b + 3

    pub args_weight : Args → ℕ
    args_weight no_args = suc calls
    args_weight (arg e es) = expr_weight e + (args_weight es + 3)

  -- a loop of at most n turns, whose condition was computed
  abbrev pub turns_weight : ℕ → ℕ → ℕ → ℕ
  turns_weight condition body zero = 0
  turns_weight condition body (suc n) = body + (condition + (turns_weight condition body n + 4))

  abbrev mutual
    pub stmt_weight : Stmt → ℕ
    stmt_weight (var at x ty e) = expr_weight e + 3
    stmt_weight (if_only at c a) = expr_weight c + (stmt_weight a + 5)
    stmt_weight (if_else at c a b) = expr_weight c + (stmt_weight a + (stmt_weight b + 5))
    stmt_weight (stray_else at a) = suc (stmt_weight a)
    stmt_weight (while at c a) = expr_weight c + (turns_weight (expr_weight c) (stmt_weight a) turns + 3)
    stmt_weight (return at e) = expr_weight e + 3
    stmt_weight (block at ss) = stmts_weight ss + 2
    stmt_weight (eval e) = expr_weight e + 3
    stmt_weight (print at e) = expr_weight e + 3

    pub stmts_weight : Stmts → ℕ
    stmts_weight no_stmts = 1
    stmts_weight (stmt s ss) = stmt_weight s + (stmts_weight ss + 3)

  abbrev pub heaviest : List Callee → ℕ
  heaviest [] = 0
  heaviest (f ∷ fs) = max (stmt_weight (stmt_of f.function.now.body)) (heaviest fs)

  abbrev pub rest_weight : Rest → ℕ
  rest_weight (Evaluate e) = expr_weight (expr_of e.now)
  rest_weight (Unary op) = 0
  rest_weight (Right op b) = expr_weight (expr_of b.now) + 2
  rest_weight (Binary op y) = 0
  rest_weight (And b) = expr_weight (expr_of b.now)
  rest_weight (Or b) = expr_weight (expr_of b.now)
  rest_weight (Store n) = 0
  rest_weight (Argument f known es) = args_weight (args_of es.now)
  rest_weight (Initialize n) = 0
  rest_weight Discard = 0
  rest_weight (RunAll q) = stmts_weight (stmts_of q.statements.now)
  rest_weight (Declare v) = 0
  rest_weight Forget = 0
  rest_weight (If q) = stmt_weight (stmt_of q.statement.now) + 2
  rest_weight (IfElse q) = stmt_weight (stmt_of q.then.now) + (stmt_weight (stmt_of q.otherwise.now) + 2)
  rest_weight (Turn l) = turns_weight (expr_weight (expr_of l.condition.now)) (stmt_weight (stmt_of l.body.statement.now)) l.turns
  rest_weight (Again l) = expr_weight (expr_of l.condition.now) + (turns_weight (expr_weight (expr_of l.condition.now)) (stmt_weight (stmt_of l.body.statement.now)) l.turns + 2)
  rest_weight (Run q) = stmt_weight (stmt_of q.statement.now)
  rest_weight Return = 0
  rest_weight Print = 0
  rest_weight (Caller c) = 0

module _ (fs : List Callee) (turns : ℕ) where
  -- a call, where at most n calls may be opened
  abbrev pub call_weight : ℕ → ℕ
  call_weight zero = 0
  call_weight (suc n) = suc (suc (heaviest (call_weight n) turns fs))

  -- how many calls may be opened behind a step, where it is done with n
  abbrev pub calls_behind : Rest → ℕ → ℕ
  calls_behind (Caller c) n = c.calls
  calls_behind r n = n

  -- the steps that are left, where at most n calls may be opened
  abbrev pub rests_weight : ℕ → List Rest → ℕ
  rests_weight n [] = 0
  rests_weight n (r ∷ k) = suc (rest_weight (call_weight n) turns r + rests_weight (calls_behind r n) k)
