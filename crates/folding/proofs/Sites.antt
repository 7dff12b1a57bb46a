-- Faults over the nodes of a program, for any faults: where folding keeps expressions and statements free of them, it keeps the program free of them.
use Rattle.std.proofs.Common.{◌≡◌, ℕ, List, [], ◌∷◌, ◌++◌, None, refl, sym, ◌∙◌, subst}
use Rattle.std.specs.List.{flat_map}
use Rattle.std.proofs.lemmas.Grind.{flat_map-append}
use Rattle.source_meaning.specs.declared.kinds.ValueType.{ValueType}
use Rattle.source_meaning.specs.declared.kinds.ValueType.TheVariants.{Int}
use Rattle.source_meaning.specs.Ast.{Expr, Stmt, var, if_only, if_else, stray_else, while, return, block, eval, print, Stmts, no_stmts, stmt, Param, Function, Program}
use Rattle.source_meaning.specs.Scope.{Scope, declared, past, behind, inner, no_scope, body_scope, a_stmt, a_param, a_function, the_program, Site, site, expr_sites, stmt_sites, stmts_sites, params_sites, function_sites, sites, Fault}
use Rattle.folding.specs.Folding.{folded, folded_stmt, folded_stmts, folded_function, folded_program}
use Rattle.folding.proofs.Kept.{past_same, behind_same}

-- no node of these has a fault
abbrev pub Free : (Site → List Fault) → List Site → Type 0
Free F ss = flat_map F ss ≡ []

pub nil_parts : {A : Type 0} (xs ys : List A) → xs ++ ys ≡ [] → (xs ≡ []) × (ys ≡ [])
nil_parts [] ys h = (refl, h)
nil_parts (x ∷ xs) ys h = absurd (cc)

pub nil_both : {A : Type 0} (xs ys : List A) → xs ≡ [] → ys ≡ [] → xs ++ ys ≡ []
nil_both xs ys h k = λ i. h i ++ k i

pub free_parts : (F : Site → List Fault) (xs ys : List Site) → Free F (xs ++ ys) → Free F xs × Free F ys
free_parts F xs ys h = nil_parts (flat_map F xs) (flat_map F ys) (sym (flat_map-append F xs ys) ∙ h)

pub free_both : (F : Site → List Fault) (xs ys : List Site) → Free F xs → Free F ys → Free F (xs ++ ys)
free_both F xs ys h k = flat_map-append F xs ys ∙ nil_both (flat_map F xs) (flat_map F ys) h k

pub free_one : (F : Site → List Fault) (s : Site) → F s ≡ [] → Free F (s ∷ [])
free_one F s h = nil_both (F s) [] h refl

pub one_free : (F : Site → List Fault) (s : Site) → Free F (s ∷ []) → F s ≡ []
one_free F s h = (nil_parts (F s) [] h).0

-- the nodes of a statement's own expression
abbrev pub own_sites : ValueType → Scope → Stmt → List Site
own_sites g sc (var at x ty e) = expr_sites g sc 0 e
own_sites g sc (if_only at c a) = expr_sites g sc 0 c
own_sites g sc (if_else at c a b) = expr_sites g sc 0 c
own_sites g sc (stray_else at a) = []
own_sites g sc (while at c a) = expr_sites g sc 0 c
own_sites g sc (return at e) = expr_sites g sc 0 e
own_sites g sc (block at ss) = []
own_sites g sc (eval e) = expr_sites g sc 0 e
own_sites g sc (print at e) = expr_sites g sc 0 e

module _
    (F G : Site → List Fault)
    (exprs : (g : ValueType) (sc : Scope) (d : ℕ) (e : Expr) → Free F (expr_sites g sc d e) → Free G (expr_sites g sc d (folded e)))
    (owns : (g : ValueType) (sc : Scope) (s : Stmt) → Free F (own_sites g sc s) → F (site g sc None (a_stmt s)) ≡ [] → G (site g sc None (a_stmt (folded_stmt s))) ≡ [])
    (params : (g : ValueType) (sc : Scope) (q : Param) → F (site g sc None (a_param q)) ≡ [] → G (site g sc None (a_param q)) ≡ [])
    (functions : (g : ValueType) (f : Function) → G (site g no_scope None (a_function f)) ≡ [])
    (program : G (site Int no_scope None the_program) ≡ []) where
  -- an expression and its statement
  simple : (g : ValueType) (sc : Scope) (s : Stmt) (e : Expr) → Free F (expr_sites g sc 0 e ++ site g sc None (a_stmt s) ∷ []) → own_sites g sc s ≡ expr_sites g sc 0 e
      → Free G (expr_sites g sc 0 (folded e) ++ site g sc None (a_stmt (folded_stmt s)) ∷ [])
  simple g sc s e h is =
      let q = free_parts F (expr_sites g sc 0 e) (site g sc None (a_stmt s) ∷ []) h in
      free_both G (expr_sites g sc 0 (folded e)) _ (exprs g sc 0 e q.0)
      (free_one G (site g sc None (a_stmt (folded_stmt s))) (owns g sc s (subst (λ ss. Free F ss) (sym is) q.0) (one_free F (site g sc None (a_stmt s)) q.1)))

  -- a condition, a part, and their statement
  conditional : (g : ValueType) (sc : Scope) (s : Stmt) (c : Expr) (a : Stmt) → Free F (expr_sites g sc 0 c ++ (stmt_sites g sc a ++ site g sc None (a_stmt s) ∷ [])) → own_sites g sc s ≡ expr_sites g sc 0 c
      → (Free F (stmt_sites g sc a) → Free G (stmt_sites g sc (folded_stmt a))) → Free G (expr_sites g sc 0 (folded c) ++ (stmt_sites g sc (folded_stmt a) ++ site g sc None (a_stmt (folded_stmt s)) ∷ []))
  conditional g sc s c a h is part =
      let q = free_parts F (expr_sites g sc 0 c) (stmt_sites g sc a ++ site g sc None (a_stmt s) ∷ []) h in
      let r = free_parts F (stmt_sites g sc a) (site g sc None (a_stmt s) ∷ []) q.1 in
      free_both G (expr_sites g sc 0 (folded c)) _ (exprs g sc 0 c q.0)
      (free_both G (stmt_sites g sc (folded_stmt a)) _ (part r.0)
      (free_one G (site g sc None (a_stmt (folded_stmt s))) (owns g sc s (subst (λ ss. Free F ss) (sym is) q.0) (one_free F (site g sc None (a_stmt s)) r.1))))

  mutual
    stmt_free : (s : Stmt) (g : ValueType) (sc : Scope) → Free F (stmt_sites g sc s) → Free G (stmt_sites g sc (folded_stmt s))
    stmt_free (var at x ty e) g sc h = simple g sc (var at x ty e) e h refl
    stmt_free (if_only at c a) g sc h = conditional g sc (if_only at c a) c a h refl (stmt_free a g sc)
    stmt_free (if_else at c a b) g sc h =
        let q = free_parts F (expr_sites g sc 0 c) (stmt_sites g sc a ++ (stmt_sites g (past sc a) b ++ site g sc None (a_stmt (if_else at c a b)) ∷ [])) h in
        let r = free_parts F (stmt_sites g sc a) (stmt_sites g (past sc a) b ++ site g sc None (a_stmt (if_else at c a b)) ∷ []) q.1 in
        let u = free_parts F (stmt_sites g (past sc a) b) (site g sc None (a_stmt (if_else at c a b)) ∷ []) r.1 in
        free_both G (expr_sites g sc 0 (folded c)) _ (exprs g sc 0 c q.0)
        (free_both G (stmt_sites g sc (folded_stmt a)) _ (stmt_free a g sc r.0)
        (free_both G (stmt_sites g (past sc (folded_stmt a)) (folded_stmt b)) _
        (subst (λ k. Free G (stmt_sites g k (folded_stmt b))) (sym (past_same sc a)) (stmt_free b g (past sc a) u.0))
        (free_one G (site g sc None (a_stmt (folded_stmt (if_else at c a b)))) (owns g sc (if_else at c a b) q.0 (one_free F (site g sc None (a_stmt (if_else at c a b))) u.1)))))
    stmt_free (stray_else at a) g sc h =
        let q = free_parts F (stmt_sites g sc a) (site g sc None (a_stmt (stray_else at a)) ∷ []) h in
        free_both G (stmt_sites g sc (folded_stmt a)) _ (stmt_free a g sc q.0)
        (free_one G (site g sc None (a_stmt (folded_stmt (stray_else at a)))) (owns g sc (stray_else at a) refl (one_free F (site g sc None (a_stmt (stray_else at a))) q.1)))
    stmt_free (while at c a) g sc h = conditional g sc (while at c a) c a h refl (stmt_free a g sc)
    stmt_free (return at e) g sc h = simple g sc (return at e) e h refl
    stmt_free (block at ss) g sc h =
        let q = free_parts F (stmts_sites g (inner sc) ss) (site g sc None (a_stmt (block at ss)) ∷ []) h in
        free_both G (stmts_sites g (inner sc) (folded_stmts ss)) _ (stmts_free ss g (inner sc) q.0)
        (free_one G (site g sc None (a_stmt (folded_stmt (block at ss)))) (owns g sc (block at ss) refl (one_free F (site g sc None (a_stmt (block at ss))) q.1)))
    stmt_free (eval e) g sc h = simple g sc (eval e) e h refl
    stmt_free (print at e) g sc h = simple g sc (print at e) e h refl

    stmts_free : (ss : Stmts) (g : ValueType) (sc : Scope) → Free F (stmts_sites g sc ss) → Free G (stmts_sites g sc (folded_stmts ss))
    stmts_free no_stmts g sc h = refl
    stmts_free (stmt s ss) g sc h =
        let q = free_parts F (stmt_sites g sc s) (stmts_sites g (behind sc s) ss) h in
        free_both G (stmt_sites g sc (folded_stmt s)) (stmts_sites g (behind sc (folded_stmt s)) (folded_stmts ss)) (stmt_free s g sc q.0)
        (subst (λ k. Free G (stmts_sites g k (folded_stmts ss))) (sym (behind_same sc s)) (stmts_free ss g (behind sc s) q.1))

  params_free : (qs : List Param) (g : ValueType) (sc : Scope) → Free F (params_sites g sc qs) → Free G (params_sites g sc qs)
  params_free [] g sc h = refl
  params_free (q ∷ qs) g sc h =
      let r = nil_parts (F (site g sc None (a_param q))) (flat_map F (params_sites g (declared sc q.at q.name q.type) qs)) h in
      nil_both (G (site g sc None (a_param q))) _ (params g sc q r.0) (params_free qs g (declared sc q.at q.name q.type) r.1)

  function_free : (f : Function) → Free F (function_sites f) → Free G (function_sites (folded_function f))
  function_free f h =
      let q = free_parts F (params_sites f.type no_scope f.params) (stmt_sites f.type (body_scope f) f.body ++ site f.type no_scope None (a_function f) ∷ []) h in
      let r = free_parts F (stmt_sites f.type (body_scope f) f.body) (site f.type no_scope None (a_function f) ∷ []) q.1 in
      free_both G (params_sites f.type no_scope f.params) _ (params_free f.params f.type no_scope q.0)
      (free_both G (stmt_sites f.type (body_scope f) (folded_stmt f.body)) _ (stmt_free f.body f.type (body_scope f) r.0)
      (free_one G (site f.type no_scope None (a_function (folded_function f))) (functions f.type (folded_function f))))

  functions_free : (fs : Program) → Free F (flat_map function_sites fs) → Free G (flat_map function_sites (folded_program fs))
  functions_free [] h = refl
  functions_free (f ∷ fs) h =
      let q = free_parts F (function_sites f) (flat_map function_sites fs) h in
      free_both G (function_sites (folded_function f)) _ (function_free f q.0) (functions_free fs q.1)

  pub sites_free : (p : Program) → Free F (sites p) → Free G (sites (folded_program p))
  sites_free p h =
      let q = free_parts F (flat_map function_sites p) (site Int no_scope None the_program ∷ []) h in
      free_both G (flat_map function_sites (folded_program p)) _ (functions_free p q.0) (free_one G (site Int no_scope None the_program) program)
