-- Constant folding on trees. From the leaves upwards, an operator of constants is the constant of its value; an And or an Or whose left
-- side is a constant is that constant where it decides, else its right side. Nothing else changes.
use Rattle.std.specs.Prelude.{ℕ, zero, suc, true, false, Option, Some, None, map}
use Rattle.source_meaning.specs.declared.kinds.ValueType.{ValueType}
use Rattle.source_meaning.specs.declared.kinds.ValueType.TheVariants.{Int, Bool as BoolType}
use Rattle.source_meaning.specs.declared.kinds.UnaryOp.{UnaryOp}
use Rattle.source_meaning.specs.declared.kinds.BinaryOp.{BinaryOp}
use Rattle.source_meaning.specs.Ast.{Expr, num, truth, name, call, unary, binary, and, or, assign, Args, no_args, arg, Stmt, var, if_only, if_else, stray_else, while, return, block, eval, print, Stmts, no_stmts, stmt, Function, Program}
use Rattle.source_meaning.specs.Operators.{flag, unary_value, binary_value}
use Rattle.source_meaning.specs.Typing.{unary_operand, binary_type, group_of}

-- the value of a constant, which a number or a truth value is
abbrev pub constant : Expr → Option ℕ
constant (num at v) = Some v
constant (truth at b) = Some (flag b)
constant (name at x) = None
constant (call at f es) = None
constant (unary at op a) = None
constant (binary at op a b) = None
constant (and at a b) = None
constant (or at a b) = None
constant (assign at a b) = None

-- A constant in the place of a node: it keeps the node's own token, and its kind is that of the node's type. A truth value is 0 or
-- 1; of any other number, which no program without a fault of typing has there, a number is made, so that the value stays.
abbrev pub constant_of : ValueType → (at value : ℕ) → Expr
constant_of Int at v = num at v
constant_of BoolType at zero = truth at false
constant_of BoolType at (suc zero) = truth at true
constant_of BoolType at (suc (suc n)) = num at (suc (suc n))

-- an operator, by what its operands are constants of; its type is its operand's
abbrev pub folded_unary : (at : ℕ) → UnaryOp → Expr → Option ℕ → Expr
folded_unary at op a None = unary at op a
folded_unary at op a (Some x) = constant_of (unary_operand op) at (unary_value op x)

abbrev pub folded_binary : (at : ℕ) → BinaryOp → Expr → Expr → Option ℕ → Option ℕ → Expr
folded_binary at op a b None y = binary at op a b
folded_binary at op a b (Some x) None = binary at op a b
folded_binary at op a b (Some x) (Some y) = constant_of (binary_type (group_of op)) at (binary_value op x y)

-- an And is decided by 0, an Or by any other value
abbrev pub folded_and : (at : ℕ) → Expr → Expr → Option ℕ → Expr
folded_and at a b None = and at a b
folded_and at a b (Some zero) = constant_of BoolType at zero
folded_and at a b (Some (suc n)) = b

abbrev pub folded_or : (at : ℕ) → Expr → Expr → Option ℕ → Expr
folded_or at a b None = or at a b
folded_or at a b (Some zero) = b
folded_or at a b (Some (suc n)) = constant_of BoolType at (suc n)

abbrev mutual
  pub folded : Expr → Expr
  folded (num at v) = num at v
  folded (truth at b) = truth at b
  folded (name at x) = name at x
  folded (call at f es) = call at f (folded_args es)
  folded (unary at op a) = let a' = folded a in folded_unary at op a' (constant a')
  folded (binary at op a b) = let a' = folded a in let b' = folded b in folded_binary at op a' b' (constant a') (constant b')
  folded (and at a b) = let a' = folded a in folded_and at a' (folded b) (constant a')
  folded (or at a b) = let a' = folded a in folded_or at a' (folded b) (constant a')
  folded (assign at a b) = assign at a (folded b)

  pub folded_args : Args → Args
  folded_args no_args = no_args
  folded_args (arg e es) = arg (folded e) (folded_args es)

-- statements, variables and their numbers stay
abbrev mutual
  pub folded_stmt : Stmt → Stmt
  folded_stmt (var at x ty e) = var at x ty (folded e)
  folded_stmt (if_only at c a) = if_only at (folded c) (folded_stmt a)
  folded_stmt (if_else at c a b) = if_else at (folded c) (folded_stmt a) (folded_stmt b)
  folded_stmt (stray_else at a) = stray_else at (folded_stmt a)
  folded_stmt (while at c a) = while at (folded c) (folded_stmt a)
  folded_stmt (return at e) = return at (folded e)
  folded_stmt (block at ss) = block at (folded_stmts ss)
  folded_stmt (eval e) = eval (folded e)
  folded_stmt (print at e) = print at (folded e)

  pub folded_stmts : Stmts → Stmts
  folded_stmts no_stmts = no_stmts
  folded_stmts (stmt s ss) = stmt (folded_stmt s) (folded_stmts ss)

abbrev pub folded_function : Function → Function
folded_function f = record f { body = folded_stmt f.body }

abbrev pub folded_program : Program → Program
folded_program p = map folded_function p
