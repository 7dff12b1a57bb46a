-- A program without a fault of scope is one after folding.
use Rattle.std.proofs.Common.{◌≡◌, ℕ, zero, suc, List, [], ◌∷◌, ◌++◌, Option, Some, None, refl, sym, ap, ◌∙◌, subst}
use Rattle.std.specs.Prelude.{not, is_some, option_map, codes}
use Rattle.std.specs.List.{flat_map}
use Rattle.source_meaning.specs.declared.kinds.ValueType.{ValueType}
use Rattle.source_meaning.specs.declared.kinds.ValueType.TheVariants.{Int, Bool as BoolType}
use Rattle.source_meaning.specs.declared.kinds.UnaryOp.{UnaryOp}
use Rattle.source_meaning.specs.declared.kinds.BinaryOp.{BinaryOp}
use Rattle.source_meaning.specs.Ast.{Expr, num, truth, name, call, unary, binary, and, or, assign, Args, no_args, arg, Stmt, var, if_only, if_else, stray_else, while, return, block, eval, print, Function, Program}
use Rattle.source_meaning.specs.Operators.{unary_value, binary_value}
use Rattle.source_meaning.specs.Typing.{unary_operand, binary_type, group_of}
use Rattle.source_meaning.specs.Scope.{Scope, function_of, an_expr, a_stmt, Site, site, sites, expr_sites, args_sites, Fault, fault_if, scope_fault, again_faults, main_fault, scope_faults}
use Rattle.folding.specs.Folding.{constant, constant_of, folded, folded_args, folded_unary, folded_binary, folded_and, folded_or, folded_stmt, folded_function, folded_program}
use Rattle.folding.proofs.Kept.{found_folded}
use Rattle.folding.proofs.Sites.{Free, nil_parts, nil_both, free_parts, free_both, free_one, one_free, sites_free}

mapped_some : (o : Option Function) → is_some (option_map folded_function o) ≡ is_some o
mapped_some None = refl
mapped_some (Some f) = refl

module _ (p : Program) where
  abbrev before : Site → List Fault
  before s = scope_fault p s.scope s.part

  abbrev after : Site → List Fault
  after s = scope_fault (folded_program p) s.scope s.part

  module _ (g : ValueType) (sc : Scope) where
    made_free : (d : ℕ) (ty : ValueType) (at x : ℕ) → Free after (expr_sites g sc d (constant_of ty at x))
    made_free d Int at x = refl
    made_free d BoolType at zero = refl
    made_free d BoolType at (suc zero) = refl
    made_free d BoolType at (suc (suc n)) = refl

    unary_free : (d at : ℕ) (op : UnaryOp) (a : Expr) (o : Option ℕ) → Free after (expr_sites g sc d a) → Free after (expr_sites g sc d (folded_unary at op a o))
    unary_free d at op a None h = free_both after (expr_sites g sc d a) _ h refl
    unary_free d at op a (Some x) h = made_free d (unary_operand op) at (unary_value op x)

    binary_free : (d at : ℕ) (op : BinaryOp) (a b : Expr) (o q : Option ℕ) → Free after (expr_sites g sc d a) → Free after (expr_sites g sc (suc d) b) → Free after (expr_sites g sc d (folded_binary at op a b o q))
    binary_free d at op a b None q h k = free_both after (expr_sites g sc d a) _ h (free_both after (expr_sites g sc (suc d) b) _ k refl)
    binary_free d at op a b (Some x) None h k = free_both after (expr_sites g sc d a) _ h (free_both after (expr_sites g sc (suc d) b) _ k refl)
    binary_free d at op a b (Some x) (Some y) h k = made_free d (binary_type (group_of op)) at (binary_value op x y)

    and_free : (d at : ℕ) (a b : Expr) (o : Option ℕ) → Free after (expr_sites g sc d a) → Free after (expr_sites g sc d b) → Free after (expr_sites g sc d (folded_and at a b o))
    and_free d at a b None h k = free_both after (expr_sites g sc d a) _ h (free_both after (expr_sites g sc d b) _ k refl)
    and_free d at a b (Some zero) h k = refl
    and_free d at a b (Some (suc n)) h k = k

    or_free : (d at : ℕ) (a b : Expr) (o : Option ℕ) → Free after (expr_sites g sc d a) → Free after (expr_sites g sc d b) → Free after (expr_sites g sc d (folded_or at a b o))
    or_free d at a b None h k = free_both after (expr_sites g sc d a) _ h (free_both after (expr_sites g sc d b) _ k refl)
    or_free d at a b (Some zero) h k = k
    or_free d at a b (Some (suc n)) h k = made_free d BoolType at (suc n)

    -- the name left of an assignment stays
    left_free : (a : Expr) → before (site g sc None (an_expr a)) ≡ [] → after (site g sc None (an_expr a)) ≡ []
    left_free (num at v) h = refl
    left_free (truth at b) h = refl
    left_free (name at x) h = h
    left_free (call at f es) h = called at f h
      where
        called : (at : ℕ) (f : List ℕ) → fault_if (not (is_some (function_of p f))) at 404 ≡ [] → fault_if (not (is_some (function_of (folded_program p) f))) at 404 ≡ []
        called at f h = subst (λ b. fault_if (not b) at 404 ≡ []) (sym (ap is_some (found_folded f p) ∙ mapped_some (function_of p f))) h
    left_free (unary at op a) h = refl
    left_free (binary at op a b) h = refl
    left_free (and at a b) h = refl
    left_free (or at a b) h = refl
    left_free (assign at a b) h = refl

    mutual
      expr_free : (e : Expr) (d : ℕ) → Free before (expr_sites g sc d e) → Free after (expr_sites g sc d (folded e))
      expr_free (num at v) d h = refl
      expr_free (truth at b) d h = refl
      expr_free (name at x) d h = h
      expr_free (call at f es) d h =
          let q = free_parts before (args_sites g sc d es) (site g sc (Some d) (an_expr (call at f es)) ∷ []) h in
          free_both after (args_sites g sc d (folded_args es)) _ (args_free es d q.0)
          (free_one after (site g sc (Some d) (an_expr (call at f (folded_args es)))) (left_free (call at f es) (one_free before (site g sc None (an_expr (call at f es))) q.1)))
      expr_free (unary at op a) d h = unary_free d at op (folded a) (constant (folded a)) (expr_free a d (free_parts before (expr_sites g sc d a) _ h).0)
      expr_free (binary at op a b) d h =
          let q = free_parts before (expr_sites g sc d a) (expr_sites g sc (suc d) b ++ site g sc (Some d) (an_expr (binary at op a b)) ∷ []) h in
          binary_free d at op (folded a) (folded b) (constant (folded a)) (constant (folded b)) (expr_free a d q.0) (expr_free b (suc d) (free_parts before (expr_sites g sc (suc d) b) _ q.1).0)
      expr_free (and at a b) d h =
          let q = free_parts before (expr_sites g sc d a) (expr_sites g sc d b ++ site g sc (Some d) (an_expr (and at a b)) ∷ []) h in
          and_free d at (folded a) (folded b) (constant (folded a)) (expr_free a d q.0) (expr_free b d (free_parts before (expr_sites g sc d b) _ q.1).0)
      expr_free (or at a b) d h =
          let q = free_parts before (expr_sites g sc d a) (expr_sites g sc d b ++ site g sc (Some d) (an_expr (or at a b)) ∷ []) h in
          or_free d at (folded a) (folded b) (constant (folded a)) (expr_free a d q.0) (expr_free b d (free_parts before (expr_sites g sc d b) _ q.1).0)
      expr_free (assign at a b) d h =
          let q = nil_parts (before (site g sc None (an_expr a))) (flat_map before (expr_sites g sc d b ++ site g sc (Some d) (an_expr (assign at a b)) ∷ [])) h in
          nil_both (after (site g sc None (an_expr a))) _ (left_free a q.0)
          (free_both after (expr_sites g sc d (folded b)) _ (expr_free b d (free_parts before (expr_sites g sc d b) _ q.1).0) refl)

      args_free : (es : Args) (d : ℕ) → Free before (args_sites g sc d es) → Free after (args_sites g sc d (folded_args es))
      args_free no_args d h = refl
      args_free (arg e es) d h =
          let q = free_parts before (expr_sites g sc d e) (args_sites g sc (suc d) es) h in
          free_both after (expr_sites g sc d (folded e)) _ (expr_free e d q.0) (args_free es (suc d) q.1)

    own_free : (s : Stmt) → before (site g sc None (a_stmt s)) ≡ [] → after (site g sc None (a_stmt (folded_stmt s))) ≡ []
    own_free (var at x ty e) h = h
    own_free (if_only at c a) h = refl
    own_free (if_else at c a b) h = refl
    own_free (stray_else at a) h = refl
    own_free (while at c a) h = refl
    own_free (return at e) h = refl
    own_free (block at ss) h = refl
    own_free (eval e) h = refl
    own_free (print at e) h = refl

  scopes_free : Free before (sites p) → Free after (sites (folded_program p))
  scopes_free = sites_free before after (λ g sc d e h. expr_free g sc e d h) (λ g sc s h k. own_free g sc s k) (λ g sc q h. h) (λ g f. refl) refl p

again_same : (earlier fs : Program) → again_faults (folded_program earlier) (folded_program fs) ≡ again_faults earlier fs
again_same earlier [] = refl
again_same earlier (f ∷ fs) = λ i. fault_if (some i) f.at 401 ++ again_same (f ∷ earlier) fs i
  where
    some : is_some (function_of (folded_program earlier) f.name) ≡ is_some (function_of earlier f.name)
    some = ap is_some (found_folded f.name earlier) ∙ mapped_some (function_of earlier f.name)

main_same : (end : ℕ) (o : Option Function) → main_fault end (option_map folded_function o) ≡ main_fault end o
main_same end None = refl
main_same end (Some f) = refl

pub scope_clean : (end : ℕ) (p : Program) → scope_faults end p ≡ [] → scope_faults end (folded_program p) ≡ []
scope_clean end p h =
    let q = nil_parts (flat_map (λ s. scope_fault p s.scope s.part) (sites p)) (again_faults [] p ++ main_fault end (function_of p (codes "main"))) h in
    let rest : again_faults [] (folded_program p) ++ main_fault end (function_of (folded_program p) (codes "main")) ≡ again_faults [] p ++ main_fault end (function_of p (codes "main"))
    = λ i. again_same [] p i ++ (ap (main_fault end) (found_folded (codes "main") p) ∙ main_same end (function_of p (codes "main"))) i in
    nil_both (flat_map (λ s. scope_fault (folded_program p) s.scope s.part) (sites (folded_program p))) _ (scopes_free p q.0) (rest ∙ q.1)
