-- The uses that are left in a folded program have the declarations that they had.
use Rattle.std.proofs.Common.{◌≡◌, inl, inr, ℕ, zero, suc, List, [], ◌∷◌, ◌++◌, Option, Some, None, refl, sym, ap, ◌∙◌, subst}
use Rattle.std.specs.Prelude.{option_map, codes}
use Rattle.std.specs.List.{flat_map}
use Rattle.std.proofs.lemmas.Grind.{flat_map-append}
use Rattle.source_meaning.specs.declared.kinds.ValueType.{ValueType}
use Rattle.source_meaning.specs.declared.kinds.ValueType.TheVariants.{Int, Bool as BoolType}
use Rattle.source_meaning.specs.declared.kinds.UnaryOp.{UnaryOp}
use Rattle.source_meaning.specs.declared.kinds.BinaryOp.{BinaryOp}
use Rattle.source_meaning.specs.Ast.{Expr, num, truth, name, call, unary, binary, and, or, assign, Args, no_args, arg, Stmt, var, if_only, if_else, stray_else, while, return, block, eval, print, Stmts, no_stmts, stmt, Param, Function, Program}
use Rattle.source_meaning.specs.Operators.{unary_value, binary_value}
use Rattle.source_meaning.specs.Typing.{unary_operand, binary_type, group_of}
use Rattle.source_meaning.specs.Scope.{Scope, declared, past, behind, inner, no_scope, body_scope, function_of, an_expr, a_stmt, a_function, the_program, Site, site, expr_sites, args_sites, stmt_sites, stmts_sites, params_sites, function_sites, main_meant}
use Rattle.folding.specs.Folding.{constant, constant_of, folded, folded_args, folded_unary, folded_binary, folded_and, folded_or, folded_stmt, folded_stmts, folded_function, folded_program}
use Rattle.folding.specs.Uses.{Use, use_of, uses, AreSome}
use Rattle.folding.proofs.Kept.{found_folded, past_same, behind_same}

-- ---- some items of a list

some_none : {A : Type 0} (ys : List A) → AreSome [] ys
some_none [] = refl
some_none (y ∷ ys) = inl (some_none ys)

some_all : {A : Type 0} (ys : List A) → AreSome ys ys
some_all [] = refl
some_all (y ∷ ys) = inr (ys, refl, some_all ys)

some_behind : {A : Type 0} (us ys vs : List A) → AreSome us vs → AreSome us (ys ++ vs)
some_behind us [] vs h = h
some_behind us (y ∷ ys) vs h = inl (some_behind us ys vs h)

some_both : {A : Type 0} (xs us ys vs : List A) → AreSome xs ys → AreSome us vs → AreSome (xs ++ us) (ys ++ vs)
some_both xs us [] vs h k = subst (λ q. AreSome (q ++ us) vs) (sym h) k
some_both xs us (y ∷ ys) vs (inl h) k = inl (some_both xs us ys vs h k)
some_both xs us (y ∷ ys) vs (inr h) k = inr (h.0 ++ us, ap (λ q. q ++ us) h.1, some_both h.0 us ys vs h.2 k)

some_front : {A : Type 0} (xs ys vs : List A) → AreSome xs ys → AreSome xs (ys ++ vs)
some_front xs [] vs h = subst (λ q. AreSome q vs) (sym h) (some_none vs)
some_front xs (y ∷ ys) vs (inl h) = inl (some_front xs ys vs h)
some_front xs (y ∷ ys) vs (inr h) = inr (h.0, h.1, some_front h.0 ys vs h.2)

meant_same : (o : Option Function) → option_map (λ g. g.at) (option_map folded_function o) ≡ option_map (λ g. g.at) o
meant_same None = refl
meant_same (Some f) = refl

module _ (p : Program) where
  abbrev before : Site → List Use
  before s = use_of p s.scope s.part

  abbrev after : Site → List Use
  after s = use_of (folded_program p) s.scope s.part

  -- the uses of these nodes are some of the uses of those
  abbrev Less : List Site → List Site → Type 0
  Less xs ys = AreSome (flat_map after xs) (flat_map before ys)

  less_both : (xs us ys vs : List Site) → Less xs ys → Less us vs → Less (xs ++ us) (ys ++ vs)
  less_both xs us ys vs h k =
      let r = some_both (flat_map after xs) (flat_map after us) (flat_map before ys) (flat_map before vs) h k in
      let s = subst (λ q. AreSome q (flat_map before ys ++ flat_map before vs)) (sym (flat_map-append after xs us)) r in
      subst (λ q. AreSome (flat_map after (xs ++ us)) q) (sym (flat_map-append before ys vs)) s

  less_front : (xs ys vs : List Site) → Less xs ys → Less xs (ys ++ vs)
  less_front xs ys vs h = subst (λ q. AreSome (flat_map after xs) q) (sym (flat_map-append before ys vs)) (some_front (flat_map after xs) (flat_map before ys) (flat_map before vs) h)

  less_behind : (us ys vs : List Site) → Less us vs → Less us (ys ++ vs)
  less_behind us ys vs h = subst (λ q. AreSome (flat_map after us) q) (sym (flat_map-append before ys vs)) (some_behind (flat_map after us) (flat_map before ys) (flat_map before vs) h)

  less_same : (xs ys : List Site) → flat_map after xs ≡ flat_map before ys → Less xs ys
  less_same xs ys h = subst (λ q. AreSome q (flat_map before ys)) (sym h) (some_all (flat_map before ys))

  less_none : (xs ys : List Site) → flat_map after xs ≡ [] → Less xs ys
  less_none xs ys h = subst (λ q. AreSome q (flat_map before ys)) (sym h) (some_none (flat_map before ys))

  call_same : (f : List ℕ) → option_map (λ g. g.at) (function_of (folded_program p) f) ≡ option_map (λ g. g.at) (function_of p f)
  call_same f = ap (option_map (λ g. g.at)) (found_folded f p) ∙ meant_same (function_of p f)

  -- ---- expressions

  module _ (g : ValueType) (sc : Scope) where
    made_none : (d : ℕ) (ty : ValueType) (at x : ℕ) → flat_map after (expr_sites g sc d (constant_of ty at x)) ≡ []
    made_none d Int at x = refl
    made_none d BoolType at zero = refl
    made_none d BoolType at (suc zero) = refl
    made_none d BoolType at (suc (suc n)) = refl

    -- an operator, whose own node is no use: it stands behind its operands' nodes
    unary_less : (d at : ℕ) (op : UnaryOp) (a : Expr) (o : Option ℕ) (ys zs : List Site) → Less (expr_sites g sc d a) ys → Less (expr_sites g sc d (folded_unary at op a o)) (ys ++ zs)
    unary_less d at op a None ys zs h = less_both (expr_sites g sc d a) _ ys zs h (some_none (flat_map before zs))
    unary_less d at op a (Some x) ys zs h = less_none (expr_sites g sc d (constant_of (unary_operand op) at (unary_value op x))) (ys ++ zs) (made_none d (unary_operand op) at (unary_value op x))

    two_less : (d n : ℕ) (a b : Expr) (s : Site) (ys vs zs : List Site) → after s ≡ [] → Less (expr_sites g sc d a) ys → Less (expr_sites g sc n b) vs → Less (expr_sites g sc d a ++ (expr_sites g sc n b ++ s ∷ [])) (ys ++ (vs ++ zs))
    two_less d n a b s ys vs zs e h k =
        less_both (expr_sites g sc d a) (expr_sites g sc n b ++ s ∷ []) ys (vs ++ zs) h
        (less_both (expr_sites g sc n b) (s ∷ []) vs zs k (less_none (s ∷ []) zs (ap (λ q. q ++ []) e)))

    binary_less : (d at : ℕ) (op : BinaryOp) (a b : Expr) (o q : Option ℕ) (ys vs zs : List Site) → Less (expr_sites g sc d a) ys → Less (expr_sites g sc (suc d) b) vs → Less (expr_sites g sc d (folded_binary at op a b o q)) (ys ++ (vs ++ zs))
    binary_less d at op a b None q ys vs zs h k = two_less d (suc d) a b (site g sc (Some d) (an_expr (binary at op a b))) ys vs zs refl h k
    binary_less d at op a b (Some x) None ys vs zs h k = two_less d (suc d) a b (site g sc (Some d) (an_expr (binary at op a b))) ys vs zs refl h k
    binary_less d at op a b (Some x) (Some y) ys vs zs h k =
        less_none (expr_sites g sc d (constant_of (binary_type (group_of op)) at (binary_value op x y))) (ys ++ (vs ++ zs)) (made_none d (binary_type (group_of op)) at (binary_value op x y))

    -- the right side alone
    right_less : (d : ℕ) (b : Expr) (ys vs zs : List Site) → Less (expr_sites g sc d b) vs → Less (expr_sites g sc d b) (ys ++ (vs ++ zs))
    right_less d b ys vs zs k = less_behind (expr_sites g sc d b) ys (vs ++ zs) (less_front (expr_sites g sc d b) vs zs k)

    and_less : (d at : ℕ) (a b : Expr) (o : Option ℕ) (ys vs zs : List Site) → Less (expr_sites g sc d a) ys → Less (expr_sites g sc d b) vs → Less (expr_sites g sc d (folded_and at a b o)) (ys ++ (vs ++ zs))
    and_less d at a b None ys vs zs h k = two_less d d a b (site g sc (Some d) (an_expr (and at a b))) ys vs zs refl h k
    and_less d at a b (Some zero) ys vs zs h k = less_none (expr_sites g sc d (constant_of BoolType at zero)) (ys ++ (vs ++ zs)) refl
    and_less d at a b (Some (suc n)) ys vs zs h k = right_less d b ys vs zs k

    or_less : (d at : ℕ) (a b : Expr) (o : Option ℕ) (ys vs zs : List Site) → Less (expr_sites g sc d a) ys → Less (expr_sites g sc d b) vs → Less (expr_sites g sc d (folded_or at a b o)) (ys ++ (vs ++ zs))
    or_less d at a b None ys vs zs h k = two_less d d a b (site g sc (Some d) (an_expr (or at a b))) ys vs zs refl h k
    or_less d at a b (Some zero) ys vs zs h k = right_less d b ys vs zs k
    or_less d at a b (Some (suc n)) ys vs zs h k = less_none (expr_sites g sc d (constant_of BoolType at (suc n))) (ys ++ (vs ++ zs)) (made_none d BoolType at (suc n))

    -- what stands left of an assignment stays
    left_same : (a : Expr) → after (site g sc None (an_expr a)) ≡ before (site g sc None (an_expr a))
    left_same (num at v) = refl
    left_same (truth at b) = refl
    left_same (name at x) = refl
    left_same (call at f es) = λ i. (at, call_same f i) ∷ []
    left_same (unary at op a) = refl
    left_same (binary at op a b) = refl
    left_same (and at a b) = refl
    left_same (or at a b) = refl
    left_same (assign at a b) = refl

    mutual
      expr_less : (e : Expr) (d : ℕ) → Less (expr_sites g sc d (folded e)) (expr_sites g sc d e)
      expr_less (num at v) d = refl
      expr_less (truth at b) d = refl
      expr_less (name at x) d = less_same (expr_sites g sc d (name at x)) (expr_sites g sc d (name at x)) refl
      expr_less (call at f es) d =
          less_both (args_sites g sc d (folded_args es)) _ (args_sites g sc d es) (site g sc (Some d) (an_expr (call at f es)) ∷ []) (args_less es d)
          (less_same (site g sc (Some d) (an_expr (call at f (folded_args es))) ∷ []) (site g sc (Some d) (an_expr (call at f es)) ∷ []) (λ i. (at, call_same f i) ∷ []))
      expr_less (unary at op a) d = unary_less d at op (folded a) (constant (folded a)) (expr_sites g sc d a) _ (expr_less a d)
      expr_less (binary at op a b) d =
          binary_less d at op (folded a) (folded b) (constant (folded a)) (constant (folded b)) (expr_sites g sc d a) (expr_sites g sc (suc d) b) _ (expr_less a d) (expr_less b (suc d))
      expr_less (and at a b) d = and_less d at (folded a) (folded b) (constant (folded a)) (expr_sites g sc d a) (expr_sites g sc d b) _ (expr_less a d) (expr_less b d)
      expr_less (or at a b) d = or_less d at (folded a) (folded b) (constant (folded a)) (expr_sites g sc d a) (expr_sites g sc d b) _ (expr_less a d) (expr_less b d)
      expr_less (assign at a b) d =
          less_both (site g sc None (an_expr a) ∷ []) (expr_sites g sc d (folded b) ++ site g sc (Some d) (an_expr (assign at a (folded b))) ∷ []) (site g sc None (an_expr a) ∷ []) (expr_sites g sc d b ++ site g sc (Some d) (an_expr (assign at a b)) ∷ [])
          (less_same (site g sc None (an_expr a) ∷ []) (site g sc None (an_expr a) ∷ []) (ap (λ q. q ++ []) (left_same a)))
          (less_both (expr_sites g sc d (folded b)) (site g sc (Some d) (an_expr (assign at a (folded b))) ∷ []) (expr_sites g sc d b) (site g sc (Some d) (an_expr (assign at a b)) ∷ []) (expr_less b d) refl)

      args_less : (es : Args) (d : ℕ) → Less (args_sites g sc d (folded_args es)) (args_sites g sc d es)
      args_less no_args d = refl
      args_less (arg e es) d = less_both (expr_sites g sc d (folded e)) (args_sites g sc (suc d) (folded_args es)) (expr_sites g sc d e) (args_sites g sc (suc d) es) (expr_less e d) (args_less es (suc d))

  -- ---- statements and functions

  -- an expression and its statement
  simple_less : (g : ValueType) (sc : Scope) (e : Expr) (s t : Site) → after s ≡ [] → Less (expr_sites g sc 0 (folded e) ++ s ∷ []) (expr_sites g sc 0 e ++ t ∷ [])
  simple_less g sc e s t h = less_both (expr_sites g sc 0 (folded e)) (s ∷ []) (expr_sites g sc 0 e) (t ∷ []) (expr_less g sc e 0) (less_none (s ∷ []) (t ∷ []) (ap (λ q. q ++ []) h))

  mutual
    stmt_less : (s : Stmt) (g : ValueType) (sc : Scope) → Less (stmt_sites g sc (folded_stmt s)) (stmt_sites g sc s)
    stmt_less (var at x ty e) g sc = simple_less g sc e _ (site g sc None (a_stmt (var at x ty e))) refl
    stmt_less (if_only at c a) g sc =
        less_both (expr_sites g sc 0 (folded c)) _ (expr_sites g sc 0 c) _ (expr_less g sc c 0) (less_both (stmt_sites g sc (folded_stmt a)) _ (stmt_sites g sc a) (site g sc None (a_stmt (if_only at c a)) ∷ []) (stmt_less a g sc) refl)
    stmt_less (if_else at c a b) g sc =
        let second = subst (λ k. Less (stmt_sites g k (folded_stmt b)) (stmt_sites g (past sc a) b)) (sym (past_same sc a)) (stmt_less b g (past sc a)) in
        less_both (expr_sites g sc 0 (folded c)) _ (expr_sites g sc 0 c) _ (expr_less g sc c 0)
        (less_both (stmt_sites g sc (folded_stmt a)) _ (stmt_sites g sc a) _ (stmt_less a g sc)
        (less_both (stmt_sites g (past sc (folded_stmt a)) (folded_stmt b)) _ (stmt_sites g (past sc a) b) (site g sc None (a_stmt (if_else at c a b)) ∷ []) second refl))
    stmt_less (stray_else at a) g sc = less_both (stmt_sites g sc (folded_stmt a)) _ (stmt_sites g sc a) (site g sc None (a_stmt (stray_else at a)) ∷ []) (stmt_less a g sc) refl
    stmt_less (while at c a) g sc =
        less_both (expr_sites g sc 0 (folded c)) _ (expr_sites g sc 0 c) _ (expr_less g sc c 0) (less_both (stmt_sites g sc (folded_stmt a)) _ (stmt_sites g sc a) (site g sc None (a_stmt (while at c a)) ∷ []) (stmt_less a g sc) refl)
    stmt_less (return at e) g sc = simple_less g sc e _ (site g sc None (a_stmt (return at e))) refl
    stmt_less (block at ss) g sc = less_both (stmts_sites g (inner sc) (folded_stmts ss)) _ (stmts_sites g (inner sc) ss) (site g sc None (a_stmt (block at ss)) ∷ []) (stmts_less ss g (inner sc)) refl
    stmt_less (eval e) g sc = simple_less g sc e _ (site g sc None (a_stmt (eval e))) refl
    stmt_less (print at e) g sc = simple_less g sc e _ (site g sc None (a_stmt (print at e))) refl

    stmts_less : (ss : Stmts) (g : ValueType) (sc : Scope) → Less (stmts_sites g sc (folded_stmts ss)) (stmts_sites g sc ss)
    stmts_less no_stmts g sc = refl
    stmts_less (stmt s ss) g sc =
        let rest = subst (λ k. Less (stmts_sites g k (folded_stmts ss)) (stmts_sites g (behind sc s) ss)) (sym (behind_same sc s)) (stmts_less ss g (behind sc s)) in
        less_both (stmt_sites g sc (folded_stmt s)) (stmts_sites g (behind sc (folded_stmt s)) (folded_stmts ss)) (stmt_sites g sc s) (stmts_sites g (behind sc s) ss) (stmt_less s g sc) rest

  params_less : (qs : List Param) (g : ValueType) (sc : Scope) → Less (params_sites g sc qs) (params_sites g sc qs)
  params_less [] g sc = refl
  params_less (q ∷ qs) g sc = params_less qs g (declared sc q.at q.name q.type)

  function_less : (f : Function) → Less (function_sites (folded_function f)) (function_sites f)
  function_less f =
      less_both (params_sites f.type no_scope f.params) _ (params_sites f.type no_scope f.params) _ (params_less f.params f.type no_scope)
      (less_both (stmt_sites f.type (body_scope f) (folded_stmt f.body)) _ (stmt_sites f.type (body_scope f) f.body) (site f.type no_scope None (a_function f) ∷ []) (stmt_less f.body f.type (body_scope f)) refl)

  functions_less : (fs : Program) → Less (flat_map function_sites (folded_program fs)) (flat_map function_sites fs)
  functions_less [] = refl
  functions_less (f ∷ fs) = less_both (function_sites (folded_function f)) (flat_map function_sites (folded_program fs)) (function_sites f) (flat_map function_sites fs) (function_less f) (functions_less fs)

  pub uses_less : AreSome (uses (folded_program p)) (uses p)
  uses_less = less_both (flat_map function_sites (folded_program p)) _ (flat_map function_sites p) (site Int no_scope None the_program ∷ []) (functions_less p) refl

pub main_stays : (p : Program) → main_meant (folded_program p) ≡ main_meant p
main_stays p = call_same p (codes "main")
