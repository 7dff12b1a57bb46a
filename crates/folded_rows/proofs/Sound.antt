-- The nodes of a program have as many children as folding takes of them.
use Rattle.std.proofs.Common.{◌≡◌, ℕ, true, false, List, [], ◌∷◌, Option, Some, None, refl}
use Rattle.std.specs.Prelude.{is_some}
use Rattle.source_meaning.specs.declared.kinds.Kind.{Kind}
use Rattle.source_meaning.specs.declared.kinds.Kind.TheVariants.{And, Or, Binary, Unary}
use Rattle.source_meaning.specs.Ast.{Expr, num, truth, name, call, unary, binary, and, or, assign, Args, no_args, arg, Stmt, var, if_only, if_else, stray_else, while, return, block, eval, print, Stmts, no_stmts, stmt, Param, Program}
use Rattle.source_meaning.specs.Rows.{Node, node, Nodes, last, next, one, expr_node, args_nodes, stmt_node, stmts_nodes, params_nodes, functions_nodes, program_node}
use Rattle.folded_rows.specs.Columns.{constant_by, gives_way_by}
use Rattle.folded_rows.proofs.Picked.{no_left}

-- how many children folding takes of a node of some kind: none, its only one, or both
pub data Taken : Type 0 where
  takes_none : Taken
  takes_one : Taken
  takes_two : Taken

abbrev pub taken : Kind → Taken
taken (Unary op) = takes_one
taken (Binary op) = takes_two
taken And = takes_two
taken Or = takes_two
taken k = takes_none

abbrev pub Arity : Taken → Nodes → Type 0
Arity takes_none cs = Unit {0}
Arity takes_one last = ⊥
Arity takes_one (next a last) = Unit {0}
Arity takes_one (next a (next b cs)) = ⊥
Arity takes_two last = ⊥
Arity takes_two (next a last) = ⊥
Arity takes_two (next a (next b last)) = Unit {0}
Arity takes_two (next a (next b (next c cs))) = ⊥

abbrev mutual
  pub IsSound : Node → Type 0
  IsSound (node k t cs) = Arity (taken k) cs × AreSound cs

  pub AreSound : Nodes → Type 0
  AreSound last = Unit {0}
  AreSound (next c cs) = IsSound c × AreSound cs

-- ---- what is not taken doesn't count
pub none_taken : (k : Kind) (x y u w : Option ℕ) → taken k ≡ takes_none → constant_by k x y ≡ constant_by k u w
none_taken (Unary op) x y u w e = absurd (cc)
none_taken (Binary op) x y u w e = absurd (cc)
none_taken And x y u w e = absurd (cc)
none_taken Or x y u w e = absurd (cc)
none_taken k x y u w e = refl

pub one_taken : (k : Kind) (x y u : Option ℕ) → taken k ≡ takes_one → constant_by k x y ≡ constant_by k u y
one_taken (Binary op) x y u e = absurd (cc)
one_taken And x y u e = absurd (cc)
one_taken Or x y u e = absurd (cc)
one_taken k x y u e = refl

pub none_gives : (k : Kind) (x : Option ℕ) → taken k ≡ takes_none → gives_way_by k x ≡ false
none_gives And x e = absurd (cc)
none_gives Or x e = absurd (cc)
none_gives k x e = refl

pub one_gives : (k : Kind) (x : Option ℕ) → taken k ≡ takes_one → gives_way_by k x ≡ false
one_gives And x e = absurd (cc)
one_gives Or x e = absurd (cc)
one_gives k x e = refl

pub gives_some : (k : Kind) (x : Option ℕ) → gives_way_by k x ≡ true → is_some x ≡ true
gives_some k None e = absurd (let f = no_left k in cc)
gives_some k (Some x) e = refl

-- ---- programs
mutual
  expr_sound : (e : Expr) → IsSound (expr_node e)
  expr_sound (num at v) = (tt, tt)
  expr_sound (truth at b) = (tt, tt)
  expr_sound (name at x) = (tt, tt)
  expr_sound (call at f es) = (tt, args_sound es)
  expr_sound (unary at op a) = (tt, (expr_sound a, tt))
  expr_sound (binary at op a b) = (tt, (expr_sound a, (expr_sound b, tt)))
  expr_sound (and at a b) = (tt, (expr_sound a, (expr_sound b, tt)))
  expr_sound (or at a b) = (tt, (expr_sound a, (expr_sound b, tt)))
  expr_sound (assign at a b) = (tt, (expr_sound a, (expr_sound b, tt)))

  args_sound : (es : Args) → AreSound (args_nodes es)
  args_sound no_args = tt
  args_sound (arg e es) = (expr_sound e, args_sound es)

mutual
  stmt_sound : (s : Stmt) → IsSound (stmt_node s)
  stmt_sound (var at x ty e) = (tt, (expr_sound e, tt))
  stmt_sound (if_only at c a) = (tt, (expr_sound c, (stmt_sound a, tt)))
  stmt_sound (if_else at c a b) = (tt, (expr_sound c, (stmt_sound a, (stmt_sound b, tt))))
  stmt_sound (stray_else at a) = (tt, (stmt_sound a, tt))
  stmt_sound (while at c a) = (tt, (expr_sound c, (stmt_sound a, tt)))
  stmt_sound (return at e) = (tt, (expr_sound e, tt))
  stmt_sound (block at ss) = (tt, stmts_sound ss)
  stmt_sound (eval e) = (tt, (expr_sound e, tt))
  stmt_sound (print at e) = (tt, (expr_sound e, tt))

  stmts_sound : (ss : Stmts) → AreSound (stmts_nodes ss)
  stmts_sound no_stmts = tt
  stmts_sound (stmt s ss) = (stmt_sound s, stmts_sound ss)

params_sound : (qs : List Param) (c : Node) → IsSound c → AreSound (params_nodes qs (one c))
params_sound [] c h = (h, tt)
params_sound (q ∷ qs) c h = ((tt, tt), params_sound qs c h)

functions_sound : (p : Program) → AreSound (functions_nodes p)
functions_sound [] = tt
functions_sound (f ∷ fs) = ((tt, params_sound f.params (stmt_node f.body) (stmt_sound f.body)), functions_sound fs)

pub program_sound : (p : Program) → IsSound (program_node p)
program_sound p = (tt, functions_sound p)
