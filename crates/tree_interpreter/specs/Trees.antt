-- The tree that a value of the trees' types is.
use Rattle.std.specs.Prelude.{map}
use Rattle.source_meaning.specs.Ast.{Expr as ExprTree, num, truth, name, call, unary, binary, and, or, assign, Args as ArgsTree, no_args, arg, Stmt as StmtTree, var, if_only, if_else, stray_else, while, return, block, eval, print, Stmts as StmtsTree, no_stmts, stmt, Param as ParamOf, Function as FunctionOf, Program as ProgramOf}
use Rattle.tree_interpreter.specs.declared.trees.Expr.{Expr}
use Rattle.tree_interpreter.specs.declared.trees.Expr.TheVariants.{Num, Truth, Name, Call, Unary', Binary', And', Or', Assign'}
use Rattle.tree_interpreter.specs.declared.trees.Args.{Args}
use Rattle.tree_interpreter.specs.declared.trees.Args.TheVariants.{Done, Then'}
use Rattle.tree_interpreter.specs.declared.trees.Stmt.{Stmt}
use Rattle.tree_interpreter.specs.declared.trees.Stmt.TheVariants.{Var, If', IfElse', StrayElse', While', Return, Block, Eval, Print}
use Rattle.tree_interpreter.specs.declared.trees.Stmts.{Stmts}
use Rattle.tree_interpreter.specs.declared.trees.Stmts.TheVariants.{Empty, Next'}
use Rattle.tree_interpreter.specs.declared.trees.Param.{Param}
use Rattle.tree_interpreter.specs.declared.trees.Function.{Function}
use Rattle.tree_interpreter.specs.declared.trees.Program.{Program}

abbrev mutual
  pub expr_of : Expr → ExprTree
  expr_of (Num at v) = num at v
  expr_of (Truth at b) = truth at b
  expr_of (Name at x) = name at x.items
  expr_of (Call at f es) = call at f.items (args_of es)
  expr_of (Unary' at op p a) = unary at op (expr_of a)
  expr_of (Binary' at op p a q b) = binary at op (expr_of a) (expr_of b)
  expr_of (And' at p a q b) = and at (expr_of a) (expr_of b)
  expr_of (Or' at p a q b) = or at (expr_of a) (expr_of b)
  expr_of (Assign' at p a q b) = assign at (expr_of a) (expr_of b)

  pub args_of : Args → ArgsTree
  args_of Done = no_args
  args_of (Then' p e q es) = arg (expr_of e) (args_of es)

abbrev mutual
  pub stmt_of : Stmt → StmtTree
  stmt_of (Var at x ty e) = var at x.items ty (expr_of e)
  stmt_of (If' at c p a) = if_only at (expr_of c) (stmt_of a)
  stmt_of (IfElse' at c p a q b) = if_else at (expr_of c) (stmt_of a) (stmt_of b)
  stmt_of (StrayElse' at p a) = stray_else at (stmt_of a)
  stmt_of (While' at c p a) = while at (expr_of c) (stmt_of a)
  stmt_of (Return at e) = return at (expr_of e)
  stmt_of (Block at ss) = block at (stmts_of ss)
  stmt_of (Eval e) = eval (expr_of e)
  stmt_of (Print at e) = print at (expr_of e)

  pub stmts_of : Stmts → StmtsTree
  stmts_of Empty = no_stmts
  stmts_of (Next' p s q ss) = stmt (stmt_of s) (stmts_of ss)

abbrev pub param_of : Param → ParamOf
param_of q = record { at = q.at; name = q.name.items; type = q.kind }

abbrev pub function_of : Function → FunctionOf
function_of f = record { at = f.at; name = f.name.items; params = map param_of f.params.items; type = f.kind; body = stmt_of f.body }

abbrev pub program_of : Program → ProgramOf
program_of p = map function_of p.functions.items
