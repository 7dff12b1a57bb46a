-- In a folded program nothing is left to fold, and folding changes no program in which nothing is.
use Rattle.std.proofs.Common.{◌≡◌, ◌⊎◌, inl, inr, ℕ, zero, suc, [], ◌∷◌, Option, Some, None, refl, ap, ◌∙◌}
use Rattle.source_meaning.specs.declared.kinds.ValueType.{ValueType}
use Rattle.source_meaning.specs.declared.kinds.ValueType.TheVariants.{Int, Bool as BoolType}
use Rattle.source_meaning.specs.declared.kinds.UnaryOp.{UnaryOp}
use Rattle.source_meaning.specs.declared.kinds.BinaryOp.{BinaryOp}
use Rattle.source_meaning.specs.Ast.{Expr, num, truth, name, call, unary, binary, and, or, assign, Args, no_args, arg, Stmt, var, if_only, if_else, stray_else, while, return, block, eval, print, Stmts, no_stmts, stmt, Program}
use Rattle.source_meaning.specs.Operators.{unary_value, binary_value}
use Rattle.source_meaning.specs.Typing.{unary_operand, binary_type, group_of}
use Rattle.folding.specs.Folding.{constant, constant_of, folded, folded_args, folded_unary, folded_binary, folded_and, folded_or, folded_stmt, folded_stmts, folded_program}
use Rattle.folding.specs.Complete.{IsComplete, AreComplete, IsCompleteStmt, AreCompleteStmts, IsCompleteProgram}

-- ---- nothing is left

made_complete : (ty : ValueType) (at x : ℕ) → IsComplete (constant_of ty at x)
made_complete Int at x = tt
made_complete BoolType at zero = tt
made_complete BoolType at (suc zero) = tt
made_complete BoolType at (suc (suc n)) = tt

unary_complete : (at : ℕ) (op : UnaryOp) (a : Expr) (o : Option ℕ) → constant a ≡ o → IsComplete a → IsComplete (folded_unary at op a o)
unary_complete at op a None e h = (h, e)
unary_complete at op a (Some x) e h = made_complete (unary_operand op) at (unary_value op x)

binary_complete : (at : ℕ) (op : BinaryOp) (a b : Expr) (o q : Option ℕ) → constant a ≡ o → constant b ≡ q → IsComplete a → IsComplete b → IsComplete (folded_binary at op a b o q)
binary_complete at op a b None q e r h k = (h, k, inl e)
binary_complete at op a b (Some x) None e r h k = (h, k, inr r)
binary_complete at op a b (Some x) (Some y) e r h k = made_complete (binary_type (group_of op)) at (binary_value op x y)

and_complete : (at : ℕ) (a b : Expr) (o : Option ℕ) → constant a ≡ o → IsComplete a → IsComplete b → IsComplete (folded_and at a b o)
and_complete at a b None e h k = (h, k, e)
and_complete at a b (Some zero) e h k = tt
and_complete at a b (Some (suc n)) e h k = k

or_complete : (at : ℕ) (a b : Expr) (o : Option ℕ) → constant a ≡ o → IsComplete a → IsComplete b → IsComplete (folded_or at a b o)
or_complete at a b None e h k = (h, k, e)
or_complete at a b (Some zero) e h k = k
or_complete at a b (Some (suc n)) e h k = made_complete BoolType at (suc n)

mutual
  expr_complete : (e : Expr) → IsComplete (folded e)
  expr_complete (num at v) = tt
  expr_complete (truth at b) = tt
  expr_complete (name at x) = tt
  expr_complete (call at f es) = args_complete es
  expr_complete (unary at op a) = unary_complete at op (folded a) (constant (folded a)) refl (expr_complete a)
  expr_complete (binary at op a b) = binary_complete at op (folded a) (folded b) (constant (folded a)) (constant (folded b)) refl refl (expr_complete a) (expr_complete b)
  expr_complete (and at a b) = and_complete at (folded a) (folded b) (constant (folded a)) refl (expr_complete a) (expr_complete b)
  expr_complete (or at a b) = or_complete at (folded a) (folded b) (constant (folded a)) refl (expr_complete a) (expr_complete b)
  expr_complete (assign at a b) = expr_complete b

  args_complete : (es : Args) → AreComplete (folded_args es)
  args_complete no_args = tt
  args_complete (arg e es) = (expr_complete e, args_complete es)

mutual
  stmt_complete : (s : Stmt) → IsCompleteStmt (folded_stmt s)
  stmt_complete (var at x ty e) = expr_complete e
  stmt_complete (if_only at c a) = (expr_complete c, stmt_complete a)
  stmt_complete (if_else at c a b) = (expr_complete c, stmt_complete a, stmt_complete b)
  stmt_complete (stray_else at a) = stmt_complete a
  stmt_complete (while at c a) = (expr_complete c, stmt_complete a)
  stmt_complete (return at e) = expr_complete e
  stmt_complete (block at ss) = stmts_complete ss
  stmt_complete (eval e) = expr_complete e
  stmt_complete (print at e) = expr_complete e

  stmts_complete : (ss : Stmts) → AreCompleteStmts (folded_stmts ss)
  stmts_complete no_stmts = tt
  stmts_complete (stmt s ss) = (stmt_complete s, stmts_complete ss)

pub program_complete : (p : Program) → IsCompleteProgram (folded_program p)
program_complete [] = tt
program_complete (f ∷ fs) = (stmt_complete f.body, program_complete fs)

-- ---- nothing changes

right_stays : (at : ℕ) (op : BinaryOp) (a b : Expr) (o : Option ℕ) → folded_binary at op a b o None ≡ binary at op a b
right_stays at op a b None = refl
right_stays at op a b (Some x) = refl

binary_stays : (at : ℕ) (op : BinaryOp) (a b : Expr) → (constant a ≡ None) ⊎ (constant b ≡ None) → folded_binary at op a b (constant a) (constant b) ≡ binary at op a b
binary_stays at op a b (inl e) = ap (λ o. folded_binary at op a b o (constant b)) e
binary_stays at op a b (inr e) = ap (λ o. folded_binary at op a b (constant a) o) e ∙ right_stays at op a b (constant a)

mutual
  expr_stays : (e : Expr) → IsComplete e → folded e ≡ e
  expr_stays (num at v) h = refl
  expr_stays (truth at b) h = refl
  expr_stays (name at x) h = refl
  expr_stays (call at f es) h = ap (call at f) (args_stay es h)
  expr_stays (unary at op a) h = ap (λ q. folded_unary at op q (constant q)) (expr_stays a h.0) ∙ ap (folded_unary at op a) h.1
  expr_stays (binary at op a b) h =
      let x = expr_stays a h.0 in let y = expr_stays b h.1 in (λ i. folded_binary at op (x i) (y i) (constant (x i)) (constant (y i))) ∙ binary_stays at op a b h.2
  expr_stays (and at a b) h = let x = expr_stays a h.0 in let y = expr_stays b h.1 in (λ i. folded_and at (x i) (y i) (constant (x i))) ∙ ap (folded_and at a b) h.2
  expr_stays (or at a b) h = let x = expr_stays a h.0 in let y = expr_stays b h.1 in (λ i. folded_or at (x i) (y i) (constant (x i))) ∙ ap (folded_or at a b) h.2
  expr_stays (assign at a b) h = ap (assign at a) (expr_stays b h)

  args_stay : (es : Args) → AreComplete es → folded_args es ≡ es
  args_stay no_args h = refl
  args_stay (arg e es) h = let x = expr_stays e h.0 in let y = args_stay es h.1 in λ i. arg (x i) (y i)

mutual
  stmt_stays : (s : Stmt) → IsCompleteStmt s → folded_stmt s ≡ s
  stmt_stays (var at x ty e) h = ap (var at x ty) (expr_stays e h)
  stmt_stays (if_only at c a) h = let x = expr_stays c h.0 in let y = stmt_stays a h.1 in λ i. if_only at (x i) (y i)
  stmt_stays (if_else at c a b) h = let x = expr_stays c h.0 in let y = stmt_stays a h.1 in let z = stmt_stays b h.2 in λ i. if_else at (x i) (y i) (z i)
  stmt_stays (stray_else at a) h = ap (stray_else at) (stmt_stays a h)
  stmt_stays (while at c a) h = let x = expr_stays c h.0 in let y = stmt_stays a h.1 in λ i. while at (x i) (y i)
  stmt_stays (return at e) h = ap (return at) (expr_stays e h)
  stmt_stays (block at ss) h = ap (block at) (stmts_stay ss h)
  stmt_stays (eval e) h = ap eval (expr_stays e h)
  stmt_stays (print at e) h = ap (print at) (expr_stays e h)

  stmts_stay : (ss : Stmts) → AreCompleteStmts ss → folded_stmts ss ≡ ss
  stmts_stay no_stmts h = refl
  stmts_stay (stmt s ss) h = let x = stmt_stays s h.0 in let y = stmts_stay ss h.1 in λ i. stmt (x i) (y i)

pub program_stays : (p : Program) → IsCompleteProgram p → folded_program p ≡ p
program_stays [] h = refl
program_stays (f ∷ fs) h = let x = stmt_stays f.body h.0 in let y = program_stays fs h.1 in λ i. record f { body = x i } ∷ y i

pub program_again : (p : Program) → folded_program (folded_program p) ≡ folded_program p
program_again p = program_stays (folded_program p) (program_complete p)
