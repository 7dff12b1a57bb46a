-- The marks of a folded program are those of the folded nodes, once these are settled.
use Rattle.std.proofs.Common.{◌≡◌, ℕ, suc, ◌+◌, Bool, true, false, List, [], ◌∷◌, ◌++◌, length, Option, Some, None, refl, sym, ap, ◌∙◌, subst}
use Rattle.std.specs.Prelude.{if◌then◌else◌}
use Rattle.source_meaning.specs.declared.kinds.Kind.{Kind}
use Rattle.source_meaning.specs.declared.kinds.Kind.TheVariants.{Program as ProgramKind, Function as FunctionKind, Param as ParamKind, Var, Block, If, IfElse, While, Return, Eval, Print}
use Rattle.source_meaning.specs.Ast.{Expr, Stmt, var, if_only, if_else, stray_else, while, return, block, eval, print, Stmts, no_stmts, stmt, Param, Function, Program}
use Rattle.source_meaning.specs.Rows.{Node, node, Nodes, last, next, one, two, expr_node, stmt_node, stmts_nodes, params_nodes, function_node, functions_nodes, program_node, own_token}
use Rattle.row_rules.specs.Alignment.{IsNamed, IsNamedStmt, AreNamedStmts, IsNamedProgram}
use Rattle.row_laws.specs.Marks.{Mark, mark, node_marks, nodes_marks}
use Rattle.row_laws.specs.Evals.{is_eval, settled}
use Rattle.folding.specs.Folding.{folded, folded_stmt, folded_stmts, folded_function, folded_program}
use Rattle.folded_rows.specs.Nodes.{fold_node, fold_nodes}
use Rattle.folded_rows.proofs.FoldedNodes.{expr_is}

-- the same marks, but for the own tokens of statements that are values
record IsButEval (m n : Mark) : Type 0 where
  kind_is : m.kind ≡ n.kind
  size_is : m.size ≡ n.size
  token_is : is_eval m.kind ≡ false → m.token ≡ n.token

abbrev ButEval : List Mark → List Mark → Type 0
ButEval [] [] = Unit {0}
ButEval [] (n ∷ ns) = ⊥
ButEval (m ∷ ms) [] = ⊥
ButEval (m ∷ ms) (n ∷ ns) = IsButEval m n × ButEval ms ns

but_same : (ms : List Mark) → ButEval ms ms
but_same [] = tt
but_same (m ∷ ms) = (record { kind_is = refl; size_is = refl; token_is = λ e. refl }, but_same ms)

but_both : (ms ns us vs : List Mark) → ButEval ms ns → ButEval us vs → ButEval (ms ++ us) (ns ++ vs)
but_both [] [] us vs h k = k
but_both [] (n ∷ ns) us vs h k = absurd h
but_both (m ∷ ms) [] us vs h k = absurd h
but_both (m ∷ ms) (n ∷ ns) us vs h k = (h.0, but_both ms ns us vs h.1 k)

but_many : (ms ns : List Mark) → ButEval ms ns → length ms ≡ length ns
but_many [] [] h = refl
but_many [] (n ∷ ns) h = absurd h
but_many (m ∷ ms) [] h = absurd h
but_many (m ∷ ms) (n ∷ ns) h = ap suc (but_many ms ns h.1)

but_node : (k : Kind) (t u : Option ℕ) (cs ds : Nodes) → (is_eval k ≡ false → t ≡ u) → ButEval (nodes_marks cs) (nodes_marks ds) → ButEval (node_marks (node k t cs)) (node_marks (node k u ds))
but_node k t u cs ds e h =
    but_both (nodes_marks cs) (nodes_marks ds) _ (mark k u (length (nodes_marks ds) + 1) ∷ []) h
    (record { kind_is = refl; size_is = ap (λ n. n + 1) (but_many (nodes_marks cs) (nodes_marks ds) h); token_is = e }, tt)

but_next : (c d : Node) (cs ds : Nodes) → ButEval (node_marks c) (node_marks d) → ButEval (nodes_marks cs) (nodes_marks ds) → ButEval (nodes_marks (next c cs)) (nodes_marks (next d ds))
but_next c d cs ds h k = but_both (node_marks c) (node_marks d) (nodes_marks cs) (nodes_marks ds) h k

but_one : (c d : Node) → ButEval (node_marks c) (node_marks d) → ButEval (nodes_marks (one c)) (nodes_marks (one d))
but_one c d h = but_next c d last last h tt

-- the marks of an expression
expr_but : (e : Expr) → IsNamed e → ButEval (node_marks (fold_node (expr_node e))) (node_marks (expr_node (folded e)))
expr_but e ok = subst (λ c. ButEval (node_marks (fold_node (expr_node e))) (node_marks c)) (expr_is e ok).node_is (but_same (node_marks (fold_node (expr_node e))))

-- a statement of one expression
simple_but : (k : Kind) (t u : Option ℕ) (e : Expr) → IsNamed e → (is_eval k ≡ false → t ≡ u)
    → ButEval (node_marks (node k t (one (fold_node (expr_node e))))) (node_marks (node k u (one (expr_node (folded e)))))
simple_but k t u e ok h = but_node k t u (one (fold_node (expr_node e))) (one (expr_node (folded e))) h (but_one (fold_node (expr_node e)) (expr_node (folded e)) (expr_but e ok))

mutual
  stmt_but : (s : Stmt) → IsNamedStmt s → ButEval (node_marks (fold_node (stmt_node s))) (node_marks (stmt_node (folded_stmt s)))
  stmt_but (var at x ty e) ok = simple_but (Var ty) (Some at) (Some at) e ok (λ h. refl)
  stmt_but (if_only at c a) ok =
      but_node If (Some at) (Some at) (two (fold_node (expr_node c)) (fold_node (stmt_node a))) (two (expr_node (folded c)) (stmt_node (folded_stmt a))) (λ h. refl)
      (but_next (fold_node (expr_node c)) (expr_node (folded c)) (one (fold_node (stmt_node a))) (one (stmt_node (folded_stmt a))) (expr_but c ok.0) (but_one (fold_node (stmt_node a)) (stmt_node (folded_stmt a)) (stmt_but a ok.1)))
  stmt_but (if_else at c a b) ok =
      but_node IfElse (Some at) (Some at) (next (fold_node (expr_node c)) (two (fold_node (stmt_node a)) (fold_node (stmt_node b)))) (next (expr_node (folded c)) (two (stmt_node (folded_stmt a)) (stmt_node (folded_stmt b)))) (λ h. refl)
      (but_next (fold_node (expr_node c)) (expr_node (folded c)) (two (fold_node (stmt_node a)) (fold_node (stmt_node b))) (two (stmt_node (folded_stmt a)) (stmt_node (folded_stmt b))) (expr_but c ok.0)
      (but_next (fold_node (stmt_node a)) (stmt_node (folded_stmt a)) (one (fold_node (stmt_node b))) (one (stmt_node (folded_stmt b))) (stmt_but a ok.1) (but_one (fold_node (stmt_node b)) (stmt_node (folded_stmt b)) (stmt_but b ok.2))))
  stmt_but (stray_else at a) ok =
      but_node IfElse (Some at) (Some at) (one (fold_node (stmt_node a))) (one (stmt_node (folded_stmt a))) (λ h. refl) (but_one (fold_node (stmt_node a)) (stmt_node (folded_stmt a)) (stmt_but a ok))
  stmt_but (while at c a) ok =
      but_node While (Some at) (Some at) (two (fold_node (expr_node c)) (fold_node (stmt_node a))) (two (expr_node (folded c)) (stmt_node (folded_stmt a))) (λ h. refl)
      (but_next (fold_node (expr_node c)) (expr_node (folded c)) (one (fold_node (stmt_node a))) (one (stmt_node (folded_stmt a))) (expr_but c ok.0) (but_one (fold_node (stmt_node a)) (stmt_node (folded_stmt a)) (stmt_but a ok.1)))
  stmt_but (return at e) ok = simple_but Return (Some at) (Some at) e ok (λ h. refl)
  stmt_but (block at ss) ok = but_node Block (Some at) (Some at) (fold_nodes (stmts_nodes ss)) (stmts_nodes (folded_stmts ss)) (λ h. refl) (stmts_but ss ok)
  stmt_but (eval e) ok = simple_but Eval (Some (own_token e)) (Some (own_token (folded e))) e ok (λ h. absurd (cc))
  stmt_but (print at e) ok = simple_but Print (Some at) (Some at) e ok (λ h. refl)

  stmts_but : (ss : Stmts) → AreNamedStmts ss → ButEval (nodes_marks (fold_nodes (stmts_nodes ss))) (nodes_marks (stmts_nodes (folded_stmts ss)))
  stmts_but no_stmts ok = tt
  stmts_but (stmt s ss) ok =
      but_next (fold_node (stmt_node s)) (stmt_node (folded_stmt s)) (fold_nodes (stmts_nodes ss)) (stmts_nodes (folded_stmts ss)) (stmt_but s ok.0) (stmts_but ss ok.1)

params_but : (qs : List Param) (c d : Node) → ButEval (node_marks (fold_node c)) (node_marks d) → ButEval (nodes_marks (fold_nodes (params_nodes qs (one c)))) (nodes_marks (params_nodes qs (one d)))
params_but [] c d h = but_one (fold_node c) d h
params_but (q ∷ qs) c d h =
    let p : Node = node (ParamKind q.type) (Some q.at) last in
    but_next p p (fold_nodes (params_nodes qs (one c))) (params_nodes qs (one d)) (but_same (node_marks p)) (params_but qs c d h)

function_but : (f : Function) → IsNamedStmt f.body → ButEval (node_marks (fold_node (function_node f))) (node_marks (function_node (folded_function f)))
function_but f ok =
    but_node (FunctionKind f.type) (Some f.at) (Some f.at) (fold_nodes (params_nodes f.params (one (stmt_node f.body)))) (params_nodes f.params (one (stmt_node (folded_stmt f.body)))) (λ h. refl)
    (params_but f.params (stmt_node f.body) (stmt_node (folded_stmt f.body)) (stmt_but f.body ok))

functions_but : (p : Program) → IsNamedProgram p → ButEval (nodes_marks (fold_nodes (functions_nodes p))) (nodes_marks (functions_nodes (folded_program p)))
functions_but [] ok = tt
functions_but (f ∷ fs) ok =
    but_next (fold_node (function_node f)) (function_node (folded_function f)) (fold_nodes (functions_nodes fs)) (functions_nodes (folded_program fs)) (function_but f ok.0) (functions_but fs ok.1)

-- settled, they are the same
settle_same : (ms ns : List Mark) (o : Option ℕ) → ButEval ms ns → settled o ms ≡ settled o ns
settle_same [] [] o h = refl
settle_same [] (n ∷ ns) o h = absurd h
settle_same (m ∷ ms) [] o h = absurd h
settle_same (m ∷ ms) (n ∷ ns) o h =
    let token = by (is_eval m.kind) refl in
    (λ i. mark (h.0.kind_is i) (token i) (h.0.size_is i) ∷ settled (token i) ms) ∙ ap (λ q. mark n.kind (if is_eval n.kind then o else n.token) n.size ∷ q) (settle_same ms ns (if is_eval n.kind then o else n.token) h.1)
  where
    by : (b : Bool) → is_eval m.kind ≡ b → (if is_eval m.kind then o else m.token) ≡ (if is_eval n.kind then o else n.token)
    by true e = ap (λ b. if b then o else m.token) e ∙ sym (ap (λ b. if b then o else n.token) (ap is_eval (sym h.0.kind_is) ∙ e))
    by false e = ap (λ b. if b then o else m.token) e ∙ h.0.token_is e ∙ sym (ap (λ b. if b then o else n.token) (ap is_eval (sym h.0.kind_is) ∙ e))

pub program_settles : (p : Program) → IsNamedProgram p → settled None (node_marks (program_node (folded_program p))) ≡ node_marks (program_node (folded_program p))
    → settled None (node_marks (fold_node (program_node p))) ≡ node_marks (program_node (folded_program p))
program_settles p ok stays =
    settle_same (node_marks (fold_node (program_node p))) (node_marks (program_node (folded_program p))) None
    (but_node ProgramKind None None (fold_nodes (functions_nodes p)) (functions_nodes (folded_program p)) (λ h. refl) (functions_but p ok))
    ∙ stays
