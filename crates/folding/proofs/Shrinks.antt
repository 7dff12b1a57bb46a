-- Folded functions need no more slots, and have the same variables.
use Rattle.std.proofs.Common.{◌≡◌, ℕ, zero, suc, ◌+◌, ◌<◌, length, ◌≤◌, max, Option, Some, None, refl, ap, arith}
use Rattle.source_meaning.specs.Ast.{Expr, num, truth, name, call, unary, binary, and, or, assign, Args, no_args, arg, Stmt, var, if_only, if_else, stray_else, while, return, block, eval, print, Stmts, no_stmts, stmt, Function}
use Rattle.source_meaning.specs.declared.kinds.ValueType.{ValueType}
use Rattle.source_meaning.specs.declared.kinds.ValueType.TheVariants.{Int, Bool as BoolType}
use Rattle.source_meaning.specs.declared.kinds.UnaryOp.{UnaryOp}
use Rattle.source_meaning.specs.declared.kinds.BinaryOp.{BinaryOp}
use Rattle.source_meaning.specs.Operators.{unary_value, binary_value}
use Rattle.source_meaning.specs.Typing.{unary_operand, binary_type, group_of}
use Rattle.source_meaning.specs.Scope.{variables_in, variables_in_all}
use Rattle.source_meaning.specs.Frames.{slots, args_slots, stmt_slots, stmts_slots, frame}
use Rattle.folding.specs.Folding.{constant, constant_of, folded, folded_args, folded_unary, folded_binary, folded_and, folded_or, folded_stmt, folded_stmts, folded_function}

slots_some : (e : Expr) → 0 < slots e
slots_some (num at v) = omega arith
slots_some (truth at b) = omega arith
slots_some (name at x) = omega arith
slots_some (call at f es) = omega arith
slots_some (unary at op a) = slots_some a
slots_some (binary at op a b) = omega (arith, slots_some a)
slots_some (and at a b) = omega (arith, slots_some a)
slots_some (or at a b) = omega (arith, slots_some a)
slots_some (assign at a b) = slots_some b

-- a constant needs one slot
constant_slots : (ty : ValueType) (at v : ℕ) → slots (constant_of ty at v) ≡ 1
constant_slots Int at v = refl
constant_slots BoolType at zero = refl
constant_slots BoolType at (suc zero) = refl
constant_slots BoolType at (suc (suc n)) = refl

unary_less : (at : ℕ) (op : UnaryOp) (a : Expr) (o : Option ℕ) → slots (folded_unary at op a o) ≤ slots a
unary_less at op a None = omega arith
unary_less at op a (Some x) = omega (arith, constant_slots (unary_operand op) at (unary_value op x), slots_some a)

binary_less : (at : ℕ) (op : BinaryOp) (a b : Expr) (o q : Option ℕ) → slots (folded_binary at op a b o q) ≤ max (slots a) (slots b + 1)
binary_less at op a b None q = omega arith
binary_less at op a b (Some x) None = omega arith
binary_less at op a b (Some x) (Some y) = omega (arith, constant_slots (binary_type (group_of op)) at (binary_value op x y), slots_some a)

and_less : (at : ℕ) (a b : Expr) (o : Option ℕ) → slots (folded_and at a b o) ≤ max (slots a) (slots b)
and_less at a b None = omega arith
and_less at a b (Some zero) = omega (arith, constant_slots BoolType at 0, slots_some a)
and_less at a b (Some (suc n)) = omega arith

or_less : (at : ℕ) (a b : Expr) (o : Option ℕ) → slots (folded_or at a b o) ≤ max (slots a) (slots b)
or_less at a b None = omega arith
or_less at a b (Some zero) = omega arith
or_less at a b (Some (suc n)) = omega (arith, constant_slots BoolType at (suc n), slots_some a)

mutual
  slots_less : (e : Expr) → slots (folded e) ≤ slots e
  slots_less (num at v) = omega arith
  slots_less (truth at b) = omega arith
  slots_less (name at x) = omega arith
  slots_less (call at f es) = omega (arith, args_less es)
  slots_less (unary at op a) = omega (arith, unary_less at op (folded a) (constant (folded a)), slots_less a)
  slots_less (binary at op a b) = omega (arith, binary_less at op (folded a) (folded b) (constant (folded a)) (constant (folded b)), slots_less a, slots_less b)
  slots_less (and at a b) = omega (arith, and_less at (folded a) (folded b) (constant (folded a)), slots_less a, slots_less b)
  slots_less (or at a b) = omega (arith, or_less at (folded a) (folded b) (constant (folded a)), slots_less a, slots_less b)
  slots_less (assign at a b) = slots_less b

  args_less : (es : Args) → args_slots (folded_args es) ≤ args_slots es
  args_less no_args = omega arith
  args_less (arg e es) = omega (arith, slots_less e, args_less es)

mutual
  stmt_less : (s : Stmt) → stmt_slots (folded_stmt s) ≤ stmt_slots s
  stmt_less (var at x ty e) = slots_less e
  stmt_less (if_only at c a) = omega (arith, slots_less c, stmt_less a)
  stmt_less (if_else at c a b) = omega (arith, slots_less c, stmt_less a, stmt_less b)
  stmt_less (stray_else at a) = stmt_less a
  stmt_less (while at c a) = omega (arith, slots_less c, stmt_less a)
  stmt_less (return at e) = slots_less e
  stmt_less (block at ss) = stmts_less ss
  stmt_less (eval e) = slots_less e
  stmt_less (print at e) = slots_less e

  stmts_less : (ss : Stmts) → stmts_slots (folded_stmts ss) ≤ stmts_slots ss
  stmts_less no_stmts = omega arith
  stmts_less (stmt s ss) = omega (arith, stmt_less s, stmts_less ss)

-- the variables stay
mutual
  pub variables_same : (s : Stmt) → variables_in (folded_stmt s) ≡ variables_in s
  variables_same (var at x ty e) = refl
  variables_same (if_only at c a) = variables_same a
  variables_same (if_else at c a b) = λ i. variables_same a i + variables_same b i
  variables_same (stray_else at a) = variables_same a
  variables_same (while at c a) = variables_same a
  variables_same (return at e) = refl
  variables_same (block at ss) = all_same ss
  variables_same (eval e) = refl
  variables_same (print at e) = refl

  pub all_same : (ss : Stmts) → variables_in_all (folded_stmts ss) ≡ variables_in_all ss
  all_same no_stmts = refl
  all_same (stmt s ss) = λ i. variables_same s i + all_same ss i

pub frame_less : (f : Function) → (frame (folded_function f)).bytes ≤ (frame f).bytes
frame_less f = omega (arith, stmt_less f.body, variables_same f.body)

pub registers_less : (f : Function) → (frame (folded_function f)).registers ≤ (frame f).registers
registers_less f = omega (arith, stmt_less f.body)

pub spills_less : (f : Function) → (frame (folded_function f)).spills ≤ (frame f).spills
spills_less f = omega (arith, stmt_less f.body)

pub locals_same : (f : Function) → (frame (folded_function f)).locals ≡ (frame f).locals
locals_same f = ap (λ n. length f.params + n) (variables_same f.body)
