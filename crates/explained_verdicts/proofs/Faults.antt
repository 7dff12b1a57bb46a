-- Each fault of a program has one of the codes that are explained.
use Rattle.std.proofs.Common.{◌≡◌, ℕ, Bool, cond, true, false, refl, List, [], ◌∷◌, ◌++◌, length, Option, Some, None}
use Rattle.std.specs.Prelude.{◌==◌, ◌&&◌, ◌||◌, codes, drop, flat_map, map, nat_lt, take}
use Rattle.std.specs.List.{list_any}
use Rattle.source_meaning.specs.Ast.{Expr, num, truth, name, call, unary, binary, and, or, assign, Args, no_args, arg, Stmt, var, if_only, if_else, stray_else, while, return, block, eval, print, Stmts, no_stmts, stmt, Param, Function, Program}
use Rattle.source_meaning.specs.Scope.{Fault, Part, an_expr, a_stmt, a_param, a_function, the_program, Scope, Site, sites, fault_if, function_of, again_faults, main_fault, scope_fault, scope_faults, earlier, earliest_from}
use Rattle.source_meaning.specs.Shape.{args_shape, expr_shape, params_shape, shape_faults, stmt_shape, stmts_shape}
use Rattle.source_meaning.specs.Typing.{args_faults, call_faults, expr_fault, stmt_fault, type_fault, type_faults}
use Rattle.source_meaning.specs.declared.kinds.ValueType.{ValueType}

abbrev pub is_told : ℕ → Bool
is_told code = list_any (λ c. c == code) (101 ∷ 102 ∷ 201 ∷ 301 ∷ 302 ∷ 303 ∷ 401 ∷ 402 ∷ 403 ∷ 404 ∷ 405 ∷ 406 ∷ 501 ∷ 502 ∷ 503 ∷ 504 ∷ 505 ∷ 506 ∷ 507 ∷ 601 ∷ 602 ∷ 603 ∷ [])

abbrev pub AreTold : List Fault → Type 0
AreTold [] = Unit {0}
AreTold (f ∷ fs) = (is_told f.code ≡ true) × AreTold fs

both : (fs gs : List Fault) → AreTold fs → AreTold gs → AreTold (fs ++ gs)
both [] gs a b = b
both (f ∷ fs) gs a b = (a.0, both fs gs a.1 b)

maybe : (b : Bool) (at code : ℕ) → is_told code ≡ true → AreTold (fault_if b at code)
maybe true at code is = (is, tt)
maybe false at code is = tt

each : {X : Type 0} (f : X → List Fault) (xs : List X) → ((x : X) → AreTold (f x)) → AreTold (flat_map f xs)
each f [] all = tt
each f (x ∷ xs) all = both (f x) (flat_map f xs) (all x) (each f xs all)

-- ---- shape

mutual
  expr_told : (e : Expr) → AreTold (expr_shape e)
  expr_told (num at v) = tt
  expr_told (truth at b) = tt
  expr_told (name at x) = tt
  expr_told (call at f es) = args_told es
  expr_told (unary at op a) = expr_told a
  expr_told (binary at op a b) = both (expr_shape a) (expr_shape b) (expr_told a) (expr_told b)
  expr_told (and at a b) = both (expr_shape a) (expr_shape b) (expr_told a) (expr_told b)
  expr_told (or at a b) = both (expr_shape a) (expr_shape b) (expr_told a) (expr_told b)
  expr_told (assign at a b) = both (expr_shape a) _ (expr_told a) (both (expr_shape b) _ (expr_told b) (maybe _ at 302 refl))

  args_told : (es : Args) → AreTold (args_shape es)
  args_told no_args = tt
  args_told (arg e es) = both (expr_shape e) (args_shape es) (expr_told e) (args_told es)

mutual
  stmt_told : (s : Stmt) → AreTold (stmt_shape s)
  stmt_told (var at x ty e) = expr_told e
  stmt_told (if_only at c a) = both (expr_shape c) (stmt_shape a) (expr_told c) (stmt_told a)
  stmt_told (if_else at c a b) = both (expr_shape c) _ (expr_told c) (both (stmt_shape a) (stmt_shape b) (stmt_told a) (stmt_told b))
  stmt_told (stray_else at a) = both (stmt_shape a) _ (stmt_told a) (maybe true at 301 refl)
  stmt_told (while at c a) = both (expr_shape c) (stmt_shape a) (expr_told c) (stmt_told a)
  stmt_told (return at e) = expr_told e
  stmt_told (block at ss) = stmts_told ss
  stmt_told (eval e) = expr_told e
  stmt_told (print at e) = expr_told e

  stmts_told : (ss : Stmts) → AreTold (stmts_shape ss)
  stmts_told no_stmts = tt
  stmts_told (stmt s ss) = both (stmt_shape s) (stmts_shape ss) (stmt_told s) (stmts_told ss)

ninth_told : (qs : List Param) → AreTold (map (λ q. record { at = q.at; code = 303 }) qs)
ninth_told [] = tt
ninth_told (q ∷ qs) = (refl, ninth_told qs)

pub shape_told : (p : Program) → AreTold (shape_faults p)
shape_told p = each (λ f. params_shape f.params ++ stmt_shape f.body) p (λ f. both (params_shape f.params) (stmt_shape f.body) (ninth_told (take 1 (drop 8 f.params))) (stmt_told f.body))

-- ---- scope

part_told : (p : Program) (sc : Scope) (part : Part) → AreTold (scope_fault p sc part)
part_told p sc (an_expr (num at v)) = tt
part_told p sc (an_expr (truth at b)) = tt
part_told p sc (an_expr (name at x)) = maybe _ at 403 refl
part_told p sc (an_expr (call at f es)) = maybe _ at 404 refl
part_told p sc (an_expr (unary at op a)) = tt
part_told p sc (an_expr (binary at op a b)) = tt
part_told p sc (an_expr (and at a b)) = tt
part_told p sc (an_expr (or at a b)) = tt
part_told p sc (an_expr (assign at a b)) = tt
part_told p sc (a_stmt (var at x ty e)) = maybe _ at 402 refl
part_told p sc (a_stmt (if_only at c a)) = tt
part_told p sc (a_stmt (if_else at c a b)) = tt
part_told p sc (a_stmt (stray_else at a)) = tt
part_told p sc (a_stmt (while at c a)) = tt
part_told p sc (a_stmt (return at e)) = tt
part_told p sc (a_stmt (block at ss)) = tt
part_told p sc (a_stmt (eval e)) = tt
part_told p sc (a_stmt (print at e)) = tt
part_told p sc (a_param q) = maybe _ q.at 402 refl
part_told p sc (a_function f) = tt
part_told p sc the_program = tt

again_told : (before fs : Program) → AreTold (again_faults before fs)
again_told before [] = tt
again_told before (f ∷ fs) = both (fault_if _ f.at 401) (again_faults (f ∷ before) fs) (maybe _ f.at 401 refl) (again_told (f ∷ before) fs)

main_told : (end : ℕ) (o : Option Function) → AreTold (main_fault end o)
main_told end None = maybe true end 405 refl
main_told end (Some f) = maybe _ f.at 406 refl

pub scope_told : (end : ℕ) (p : Program) → AreTold (scope_faults end p)
scope_told end p =
    both (flat_map (λ (s : Site). scope_fault p s.scope s.part) (sites p)) _ (each (λ (s : Site). scope_fault p s.scope s.part) (sites p) (λ s. part_told p s.scope s.part))
    (both (again_faults [] p) (main_fault end (function_of p (codes "main"))) (again_told [] p) (main_told end (function_of p (codes "main"))))

-- ---- types

arguments_told : (p : Program) (sc : Scope) (es : Args) (qs : List Param) → AreTold (args_faults p sc es qs)
arguments_told p sc no_args qs = tt
arguments_told p sc (arg e es) [] = tt
arguments_told p sc (arg e es) (q ∷ qs) = both (fault_if _ _ 503) (args_faults p sc es qs) (maybe _ _ 503 refl) (arguments_told p sc es qs)

call_told : (p : Program) (sc : Scope) (at : ℕ) (es : Args) (o : Option Function) → AreTold (call_faults p sc at es o)
call_told p sc at es None = tt
call_told p sc at es (Some f) = both (fault_if _ at 502) (args_faults p sc es f.params) (maybe _ at 502 refl) (arguments_told p sc es f.params)

operator_told : (p : Program) (sc : Scope) (e : Expr) → AreTold (expr_fault p sc e)
operator_told p sc (num at v) = tt
operator_told p sc (truth at b) = tt
operator_told p sc (name at x) = tt
operator_told p sc (call at f es) = call_told p sc at es (function_of p f)
operator_told p sc (unary at op a) = maybe _ at 501 refl
operator_told p sc (binary at op a b) = maybe _ at 501 refl
operator_told p sc (and at a b) = maybe _ at 501 refl
operator_told p sc (or at a b) = maybe _ at 501 refl
operator_told p sc (assign at a b) = maybe _ at 506 refl

statement_told : (p : Program) (sc : Scope) (gives : ValueType) (s : Stmt) → AreTold (stmt_fault p sc gives s)
statement_told p sc gives (var at x ty e) = maybe _ at 506 refl
statement_told p sc gives (if_only at c a) = maybe _ at 504 refl
statement_told p sc gives (if_else at c a b) = maybe _ at 504 refl
statement_told p sc gives (stray_else at a) = tt
statement_told p sc gives (while at c a) = maybe _ at 504 refl
statement_told p sc gives (return at e) = maybe _ at 505 refl
statement_told p sc gives (block at ss) = tt
statement_told p sc gives (eval e) = tt
statement_told p sc gives (print at e) = maybe _ at 507 refl

site_told : (p : Program) (s : Site) (part : Part) → AreTold (type_fault p s part)
site_told p s (an_expr e) = operator_told p s.scope e
site_told p s (a_stmt t) = statement_told p s.scope s.gives t
site_told p s (a_param q) = tt
site_told p s (a_function f) = tt
site_told p s the_program = tt

pub type_told : (p : Program) → AreTold (type_faults p)
type_told p = each (λ (s : Site). type_fault p s s.part) (sites p) (λ s. site_told p s s.part)

-- ---- the earliest of them

one_of : (b : Bool) (f g : Fault) → is_told f.code ≡ true → is_told g.code ≡ true → is_told (cond b f g).code ≡ true
one_of true f g p q = p
one_of false f g p q = q

pub first_told : (f : Fault) (fs : List Fault) → is_told f.code ≡ true → AreTold fs → is_told (earliest_from f fs).code ≡ true
first_told f [] p all = p
first_told f (g ∷ gs) p all = first_told (earlier f g) gs (one_of (nat_lt f.at g.at || (f.at == g.at && nat_lt f.code g.code)) f g p all.0) all.1
