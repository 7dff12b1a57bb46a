-- The nodes that stay, where they stand, are those of the folded program.
use Rattle.std.proofs.Common.{◌≡◌, ℕ, zero, suc, ◌+◌, Bool, true, false, List, [], ◌∷◌, ◌++◌, Option, Some, None, refl, sym, ap, ◌∙◌, subst, append_assoc}
use Rattle.std.specs.List.{flat_map}
use Rattle.source_meaning.specs.declared.kinds.Kind.{Kind}
use Rattle.source_meaning.specs.declared.kinds.Kind.TheVariants.{And, Or}
use Rattle.source_meaning.specs.declared.kinds.ValueType.{ValueType}
use Rattle.source_meaning.specs.declared.kinds.ValueType.TheVariants.{Int, Bool as BoolType}
use Rattle.source_meaning.specs.declared.kinds.UnaryOp.{UnaryOp}
use Rattle.source_meaning.specs.declared.kinds.BinaryOp.{BinaryOp}
use Rattle.source_meaning.specs.Ast.{Expr, num, truth, name, call, unary, binary, and, or, assign, Args, no_args, arg, Stmt, var, if_only, if_else, stray_else, while, return, block, eval, print, Stmts, no_stmts, stmt, Param, Function, Program}
use Rattle.source_meaning.specs.Rows.{Node, one, two, expr_node, args_nodes, stmt_node, stmts_nodes, params_nodes, function_node, functions_nodes, program_node}
use Rattle.source_meaning.specs.Operators.{unary_value, binary_value}
use Rattle.source_meaning.specs.Typing.{unary_operand, binary_type, group_of}
use Rattle.source_meaning.specs.Shape.{is_name}
use Rattle.source_meaning.specs.Scope.{Scope, Site, site, Part, an_expr, a_stmt, a_param, a_function, the_program, variables_in, variables_in_all, declared, past, behind, inner, no_scope, body_scope, expr_sites, args_sites, stmt_sites, stmts_sites, params_sites, function_sites, sites}
use Rattle.row_rules.specs.Alignment.{IsNamed, AreNamed, IsNamedStmt, AreNamedStmts, IsNamedProgram}
use Rattle.folding.specs.Folding.{constant, constant_of, folded, folded_args, folded_unary, folded_binary, folded_and, folded_or, folded_stmt, folded_stmts, folded_function, folded_program}
use Rattle.folded_rows.specs.Columns.{both, one_of, constant_by, gives_way_by}
use Rattle.folded_rows.specs.Nodes.{node_value, none_of, none_of_all, keeps_by, keeps, keeps_all}
use Rattle.folded_rows.proofs.FoldedNodes.{expr_is}

abbrev pub IsExpr : Part → Type 0
IsExpr (an_expr e) = Unit {0}
IsExpr (a_stmt s) = ⊥
IsExpr (a_param q) = ⊥
IsExpr (a_function f) = ⊥
IsExpr the_program = ⊥

-- what a node of the folded program was
abbrev pub WasExpr : Expr → Part → Type 0
WasExpr (num at v) old = IsExpr old
WasExpr (truth at b) old = IsExpr old
WasExpr (name at x) old = old ≡ an_expr (name at x)
WasExpr (call at f es) old = (es' : Args) × (old ≡ an_expr (call at f es'))
WasExpr (unary at op a) old = IsExpr old
WasExpr (binary at op a b) old = IsExpr old
WasExpr (and at a b) old = IsExpr old
WasExpr (or at a b) old = IsExpr old
WasExpr (assign at a b) old = IsExpr old

abbrev pub Was : Part → Part → Type 0
Was (an_expr e) old = WasExpr e old
Was (a_stmt s) old = (s' : Stmt) × (old ≡ a_stmt s') × (s ≡ folded_stmt s')
Was (a_param q) old = old ≡ a_param q
Was (a_function f) old = (f' : Function) × (old ≡ a_function f') × (f ≡ folded_function f')
Was the_program old = old ≡ the_program

pub record IsLeft (s t : Site) : Type 0 where
  pub scope_is : t.scope ≡ s.scope
  pub part_was : Was t.part s.part

-- by flags: a node that stays is the next one of the folded program, and one that doesn't is an expression
abbrev pub Left : List Bool → List Site → List Site → Type 0
Left [] [] [] = Unit {0}
Left [] [] (t ∷ ts) = ⊥
Left [] (s ∷ ss) ts = ⊥
Left (b ∷ bs) [] ts = ⊥
Left (true ∷ bs) (s ∷ ss) [] = ⊥
Left (true ∷ bs) (s ∷ ss) (t ∷ ts) = IsLeft s t × Left bs ss ts
Left (false ∷ bs) (s ∷ ss) ts = IsExpr s.part × Left bs ss ts

left_both : (bs bs' : List Bool) (ss ss' ts ts' : List Site) → Left bs ss ts → Left bs' ss' ts' → Left (bs ++ bs') (ss ++ ss') (ts ++ ts')
left_both [] bs' [] ss' [] ts' h k = k
left_both [] bs' [] ss' (t ∷ ts) ts' h k = absurd h
left_both [] bs' (s ∷ ss) ss' ts ts' h k = absurd h
left_both (b ∷ bs) bs' [] ss' ts ts' h k = absurd h
left_both (true ∷ bs) bs' (s ∷ ss) ss' [] ts' h k = absurd h
left_both (true ∷ bs) bs' (s ∷ ss) ss' (t ∷ ts) ts' h k = (h.0, left_both bs bs' ss ss' ts ts' h.1 k)
left_both (false ∷ bs) bs' (s ∷ ss) ss' ts ts' h k = (h.0, left_both bs bs' ss ss' ts ts' h.1 k)

append_nil : {A : Type 0} (xs : List A) → xs ++ [] ≡ xs
append_nil [] = refl
append_nil (x ∷ xs) = ap (λ l. x ∷ l) (append_nil xs)

one_flag : (xs zs : List Bool) → xs ++ zs ≡ (xs ++ []) ++ zs
one_flag xs zs = ap (λ l. l ++ zs) (sym (append_nil xs))

two_flags : (xs ys zs : List Bool) → xs ++ (ys ++ zs) ≡ (xs ++ (ys ++ [])) ++ zs
two_flags xs ys zs = ap (λ l. xs ++ l) (one_flag ys zs) ∙ sym (append_assoc xs (ys ++ []) zs)

three_flags : (xs ys us zs : List Bool) → xs ++ (ys ++ (us ++ zs)) ≡ (xs ++ (ys ++ (us ++ []))) ++ zs
three_flags xs ys us zs = ap (λ l. xs ++ l) (two_flags ys us zs) ∙ sym (append_assoc xs (ys ++ (us ++ [])) zs)

-- one, two and three children, and their parent
left_one : (xs zs : List Bool) (ss ws ts qs : List Site) → Left xs ss ts → Left zs ws qs → Left ((xs ++ []) ++ zs) (ss ++ ws) (ts ++ qs)
left_one xs zs ss ws ts qs h k = subst (λ l. Left l (ss ++ ws) (ts ++ qs)) (one_flag xs zs) (left_both xs zs ss ws ts qs h k)

left_two : (xs ys zs : List Bool) (ss us ws ts vs qs : List Site) → Left xs ss ts → Left ys us vs → Left zs ws qs → Left ((xs ++ (ys ++ [])) ++ zs) (ss ++ (us ++ ws)) (ts ++ (vs ++ qs))
left_two xs ys zs ss us ws ts vs qs h k l =
    subst (λ m. Left m (ss ++ (us ++ ws)) (ts ++ (vs ++ qs))) (two_flags xs ys zs) (left_both xs (ys ++ zs) ss (us ++ ws) ts (vs ++ qs) h (left_both ys zs us ws vs qs k l))

-- the right side alone
left_right : (xs ys : List Bool) (ss us ws ts : List Site) → Left xs ss [] → Left ys us ts → Left (false ∷ []) ws [] → Left ((xs ++ ys) ++ false ∷ []) (ss ++ (us ++ ws)) ts
left_right xs ys ss us ws ts h k l =
    subst (λ m. Left m (ss ++ (us ++ ws)) ts) (sym (append_assoc xs ys (false ∷ [])))
    (left_both xs (ys ++ false ∷ []) ss (us ++ ws) [] ts h (subst (λ m. Left (ys ++ false ∷ []) (us ++ ws) m) (append_nil ts) (left_both ys (false ∷ []) us ws ts [] k l)))

-- nothing but a constant
left_none : (xs : List Bool) (ss ws ts : List Site) → Left xs ss [] → Left (true ∷ []) ws ts → Left (xs ++ true ∷ []) (ss ++ ws) ts
left_none xs ss ws ts h k = left_both xs (true ∷ []) ss ws [] ts h k

module _ (g : ValueType) (sc : Scope) where
  abbrev here : ℕ → Expr → Site
  here d e = site g sc (Some d) (an_expr e)

  -- ---- none of an expression's nodes
  mutual
    none_left : (e : Expr) (d : ℕ) → IsNamed e → Left (none_of (expr_node e)) (expr_sites g sc d e) []
    none_left (num at v) d ok = (tt, tt)
    none_left (truth at b) d ok = (tt, tt)
    none_left (name at x) d ok = (tt, tt)
    none_left (call at f es) d ok = left_both (none_of_all (args_nodes es)) (false ∷ []) (args_sites g sc d es) (here d (call at f es) ∷ []) [] [] (none_args es d ok) (tt, tt)
    none_left (unary at op a) d ok = left_one (none_of (expr_node a)) (false ∷ []) (expr_sites g sc d a) (here d (unary at op a) ∷ []) [] [] (none_left a d ok) (tt, tt)
    none_left (binary at op a b) d ok =
        left_two (none_of (expr_node a)) (none_of (expr_node b)) (false ∷ []) (expr_sites g sc d a) (expr_sites g sc (suc d) b) (here d (binary at op a b) ∷ []) [] [] [] (none_left a d ok.0) (none_left b (suc d) ok.1) (tt, tt)
    none_left (and at a b) d ok =
        left_two (none_of (expr_node a)) (none_of (expr_node b)) (false ∷ []) (expr_sites g sc d a) (expr_sites g sc d b) (here d (and at a b) ∷ []) [] [] [] (none_left a d ok.0) (none_left b d ok.1) (tt, tt)
    none_left (or at a b) d ok =
        left_two (none_of (expr_node a)) (none_of (expr_node b)) (false ∷ []) (expr_sites g sc d a) (expr_sites g sc d b) (here d (or at a b) ∷ []) [] [] [] (none_left a d ok.0) (none_left b d ok.1) (tt, tt)
    none_left (assign at a b) d ok =
        left_two (none_of (expr_node a)) (none_of (expr_node b)) (false ∷ []) (site g sc None (an_expr a) ∷ []) (expr_sites g sc d b) (here d (assign at a b) ∷ []) [] [] [] (none_name a ok.0) (none_left b d ok.1) (tt, tt)

    none_name : (a : Expr) → is_name a ≡ true → Left (none_of (expr_node a)) (site g sc None (an_expr a) ∷ []) []
    none_name (name at x) h = (tt, tt)
    none_name (num at v) h = absurd (cc)
    none_name (truth at b) h = absurd (cc)
    none_name (call at f es) h = absurd (cc)
    none_name (unary at op a) h = absurd (cc)
    none_name (binary at op a b) h = absurd (cc)
    none_name (and at a b) h = absurd (cc)
    none_name (or at a b) h = absurd (cc)
    none_name (assign at a b) h = absurd (cc)

    none_args : (es : Args) (d : ℕ) → AreNamed es → Left (none_of_all (args_nodes es)) (args_sites g sc d es) []
    none_args no_args d ok = tt
    none_args (arg e es) d ok = left_both (none_of (expr_node e)) (none_of_all (args_nodes es)) (expr_sites g sc d e) (args_sites g sc (suc d) es) [] [] (none_left e d ok.0) (none_args es (suc d) ok.1)

  -- ---- constants
  made_left : (d : ℕ) (ty : ValueType) (at x : ℕ) (e : Expr) → Left (true ∷ []) (here d e ∷ []) (expr_sites g sc d (constant_of ty at x))
  made_left d Int at x e = (record { scope_is = refl; part_was = tt }, tt)
  made_left d BoolType at zero e = (record { scope_is = refl; part_was = tt }, tt)
  made_left d BoolType at (suc zero) e = (record { scope_is = refl; part_was = tt }, tt)
  made_left d BoolType at (suc (suc n)) e = (record { scope_is = refl; part_was = tt }, tt)

  -- ---- operators
  unary_left : (d at : ℕ) (op : UnaryOp) (a a' : Expr) (o : Option ℕ) → node_value (expr_node a) ≡ o → IsNamed a → Left (keeps (expr_node a)) (expr_sites g sc d a) (expr_sites g sc d a')
      → Left (keeps (expr_node (unary at op a))) (expr_sites g sc d (unary at op a)) (expr_sites g sc d (folded_unary at op a' o))
  unary_left d at op a a' None v ok h =
      subst (λ o. Left (keeps_by false o (keeps (expr_node a)) (none_of_all (one (expr_node a))) (keeps_all (one (expr_node a)))) (expr_sites g sc d (unary at op a)) (expr_sites g sc d (unary at op a'))) (sym (ap (one_of (unary_value op)) v))
      (left_one (keeps (expr_node a)) (true ∷ []) (expr_sites g sc d a) (here d (unary at op a) ∷ []) (expr_sites g sc d a') (here d (unary at op a') ∷ []) h (record { scope_is = refl; part_was = tt }, tt))
  unary_left d at op a a' (Some x) v ok h =
      subst (λ o. Left (keeps_by false o (keeps (expr_node a)) (none_of_all (one (expr_node a))) (keeps_all (one (expr_node a)))) (expr_sites g sc d (unary at op a)) (expr_sites g sc d (constant_of (unary_operand op) at (unary_value op x))))
      (sym (ap (one_of (unary_value op)) v))
      (left_one (none_of (expr_node a)) (true ∷ []) (expr_sites g sc d a) (here d (unary at op a) ∷ []) [] (expr_sites g sc d (constant_of (unary_operand op) at (unary_value op x))) (none_left a d ok)
      (made_left d (unary_operand op) at (unary_value op x) (unary at op a)))

  binary_left : (d at : ℕ) (op : BinaryOp) (a b a' b' : Expr) (x y : Option ℕ) → node_value (expr_node a) ≡ x → node_value (expr_node b) ≡ y → IsNamed a → IsNamed b
      → Left (keeps (expr_node a)) (expr_sites g sc d a) (expr_sites g sc d a') → Left (keeps (expr_node b)) (expr_sites g sc (suc d) b) (expr_sites g sc (suc d) b')
      → Left (keeps (expr_node (binary at op a b))) (expr_sites g sc d (binary at op a b)) (expr_sites g sc d (folded_binary at op a' b' x y))
  binary_left d at op a b a' b' x y v w ok ok' h k = by x y v w
    where
      by : (x y : Option ℕ) → node_value (expr_node a) ≡ x → node_value (expr_node b) ≡ y → Left (keeps (expr_node (binary at op a b))) (expr_sites g sc d (binary at op a b)) (expr_sites g sc d (folded_binary at op a' b' x y))
      by None y v w =
          subst (λ o. Left (keeps_by false o (none_of (expr_node a) ++ keeps (expr_node b)) (none_of_all (two (expr_node a) (expr_node b))) (keeps_all (two (expr_node a) (expr_node b)))) (expr_sites g sc d (binary at op a b)) (expr_sites g sc d (binary at op a' b')))
          (sym (ap (λ q. both (binary_value op) q (node_value (expr_node b))) v))
          (left_two (keeps (expr_node a)) (keeps (expr_node b)) (true ∷ []) (expr_sites g sc d a) (expr_sites g sc (suc d) b) (here d (binary at op a b) ∷ []) (expr_sites g sc d a') (expr_sites g sc (suc d) b') (here d (binary at op a' b') ∷ []) h k
          (record { scope_is = refl; part_was = tt }, tt))
      by (Some m) None v w =
          subst (λ o. Left (keeps_by false o (none_of (expr_node a) ++ keeps (expr_node b)) (none_of_all (two (expr_node a) (expr_node b))) (keeps_all (two (expr_node a) (expr_node b)))) (expr_sites g sc d (binary at op a b)) (expr_sites g sc d (binary at op a' b')))
          (sym (λ i. both (binary_value op) (v i) (w i)))
          (left_two (keeps (expr_node a)) (keeps (expr_node b)) (true ∷ []) (expr_sites g sc d a) (expr_sites g sc (suc d) b) (here d (binary at op a b) ∷ []) (expr_sites g sc d a') (expr_sites g sc (suc d) b') (here d (binary at op a' b') ∷ []) h k
          (record { scope_is = refl; part_was = tt }, tt))
      by (Some m) (Some n) v w =
          subst (λ o. Left (keeps_by false o (none_of (expr_node a) ++ keeps (expr_node b)) (none_of_all (two (expr_node a) (expr_node b))) (keeps_all (two (expr_node a) (expr_node b)))) (expr_sites g sc d (binary at op a b))
          (expr_sites g sc d (constant_of (binary_type (group_of op)) at (binary_value op m n))))
          (sym (λ i. both (binary_value op) (v i) (w i)))
          (left_two (none_of (expr_node a)) (none_of (expr_node b)) (true ∷ []) (expr_sites g sc d a) (expr_sites g sc (suc d) b) (here d (binary at op a b) ∷ []) [] [] (expr_sites g sc d (constant_of (binary_type (group_of op)) at (binary_value op m n)))
          (none_left a d ok) (none_left b (suc d) ok') (made_left d (binary_type (group_of op)) at (binary_value op m n) (binary at op a b)))

  -- an And or an Or, by what its flags come to
  abbrev flags : Kind → Expr → Expr → Option ℕ → List Bool
  flags k a b q = keeps_by (gives_way_by k q) (constant_by k q (node_value (expr_node b))) (none_of (expr_node a) ++ keeps (expr_node b)) (none_of_all (two (expr_node a) (expr_node b))) (keeps_all (two (expr_node a) (expr_node b)))

  and_left : (d at : ℕ) (a b a' b' : Expr) (x : Option ℕ) → node_value (expr_node a) ≡ x → IsNamed a → IsNamed b → Left (keeps (expr_node a)) (expr_sites g sc d a) (expr_sites g sc d a') → Left (keeps (expr_node b)) (expr_sites g sc d b) (expr_sites g sc d b')
      → Left (keeps (expr_node (and at a b))) (expr_sites g sc d (and at a b)) (expr_sites g sc d (folded_and at a' b' x))
  and_left d at a b a' b' None v ok ok' h k =
      subst (λ q. Left (flags And a b q) (expr_sites g sc d (and at a b)) (expr_sites g sc d (and at a' b'))) (sym v)
      (left_two (keeps (expr_node a)) (keeps (expr_node b)) (true ∷ []) (expr_sites g sc d a) (expr_sites g sc d b) (here d (and at a b) ∷ []) (expr_sites g sc d a') (expr_sites g sc d b') (here d (and at a' b') ∷ []) h k
      (record { scope_is = refl; part_was = tt }, tt))
  and_left d at a b a' b' (Some zero) v ok ok' h k =
      subst (λ q. Left (flags And a b q) (expr_sites g sc d (and at a b)) (expr_sites g sc d (constant_of BoolType at zero))) (sym v)
      (left_two (none_of (expr_node a)) (none_of (expr_node b)) (true ∷ []) (expr_sites g sc d a) (expr_sites g sc d b) (here d (and at a b) ∷ []) [] [] (expr_sites g sc d (constant_of BoolType at zero)) (none_left a d ok) (none_left b d ok')
      (made_left d BoolType at zero (and at a b)))
  and_left d at a b a' b' (Some (suc n)) v ok ok' h k =
      subst (λ q. Left (flags And a b q) (expr_sites g sc d (and at a b)) (expr_sites g sc d b')) (sym v)
      (left_right (none_of (expr_node a)) (keeps (expr_node b)) (expr_sites g sc d a) (expr_sites g sc d b) (here d (and at a b) ∷ []) (expr_sites g sc d b') (none_left a d ok) k (tt, tt))

  or_left : (d at : ℕ) (a b a' b' : Expr) (x : Option ℕ) → node_value (expr_node a) ≡ x → IsNamed a → IsNamed b → Left (keeps (expr_node a)) (expr_sites g sc d a) (expr_sites g sc d a') → Left (keeps (expr_node b)) (expr_sites g sc d b) (expr_sites g sc d b')
      → Left (keeps (expr_node (or at a b))) (expr_sites g sc d (or at a b)) (expr_sites g sc d (folded_or at a' b' x))
  or_left d at a b a' b' None v ok ok' h k =
      subst (λ q. Left (flags Or a b q) (expr_sites g sc d (or at a b)) (expr_sites g sc d (or at a' b'))) (sym v)
      (left_two (keeps (expr_node a)) (keeps (expr_node b)) (true ∷ []) (expr_sites g sc d a) (expr_sites g sc d b) (here d (or at a b) ∷ []) (expr_sites g sc d a') (expr_sites g sc d b') (here d (or at a' b') ∷ []) h k
      (record { scope_is = refl; part_was = tt }, tt))
  or_left d at a b a' b' (Some zero) v ok ok' h k =
      subst (λ q. Left (flags Or a b q) (expr_sites g sc d (or at a b)) (expr_sites g sc d b')) (sym v)
      (left_right (none_of (expr_node a)) (keeps (expr_node b)) (expr_sites g sc d a) (expr_sites g sc d b) (here d (or at a b) ∷ []) (expr_sites g sc d b') (none_left a d ok) k (tt, tt))
  or_left d at a b a' b' (Some (suc n)) v ok ok' h k =
      subst (λ q. Left (flags Or a b q) (expr_sites g sc d (or at a b)) (expr_sites g sc d (constant_of BoolType at (suc n)))) (sym v)
      (left_two (none_of (expr_node a)) (none_of (expr_node b)) (true ∷ []) (expr_sites g sc d a) (expr_sites g sc d b) (here d (or at a b) ∷ []) [] [] (expr_sites g sc d (constant_of BoolType at (suc n))) (none_left a d ok) (none_left b d ok')
      (made_left d BoolType at (suc n) (or at a b)))

  -- the name left of an assignment
  name_left : (a : Expr) → is_name a ≡ true → Left (keeps (expr_node a)) (site g sc None (an_expr a) ∷ []) (site g sc None (an_expr a) ∷ [])
  name_left (name at x) h = (record { scope_is = refl; part_was = refl }, tt)
  name_left (num at v) h = absurd (cc)
  name_left (truth at b) h = absurd (cc)
  name_left (call at f es) h = absurd (cc)
  name_left (unary at op a) h = absurd (cc)
  name_left (binary at op a b) h = absurd (cc)
  name_left (and at a b) h = absurd (cc)
  name_left (or at a b) h = absurd (cc)
  name_left (assign at a b) h = absurd (cc)

  mutual
    expr_left : (e : Expr) (d : ℕ) → IsNamed e → Left (keeps (expr_node e)) (expr_sites g sc d e) (expr_sites g sc d (folded e))
    expr_left (num at v) d ok = (record { scope_is = refl; part_was = tt }, tt)
    expr_left (truth at b) d ok = (record { scope_is = refl; part_was = tt }, tt)
    expr_left (name at x) d ok = (record { scope_is = refl; part_was = refl }, tt)
    expr_left (call at f es) d ok =
        left_both (keeps_all (args_nodes es)) (true ∷ []) (args_sites g sc d es) (here d (call at f es) ∷ []) (args_sites g sc d (folded_args es)) (here d (call at f (folded_args es)) ∷ []) (args_left es d ok)
        (record { scope_is = refl; part_was = (es, refl) }, tt)
    expr_left (unary at op a) d ok = unary_left d at op a (folded a) (constant (folded a)) (expr_is a ok).value_is ok (expr_left a d ok)
    expr_left (binary at op a b) d ok =
        binary_left d at op a b (folded a) (folded b) (constant (folded a)) (constant (folded b)) (expr_is a ok.0).value_is (expr_is b ok.1).value_is ok.0 ok.1 (expr_left a d ok.0) (expr_left b (suc d) ok.1)
    expr_left (and at a b) d ok = and_left d at a b (folded a) (folded b) (constant (folded a)) (expr_is a ok.0).value_is ok.0 ok.1 (expr_left a d ok.0) (expr_left b d ok.1)
    expr_left (or at a b) d ok = or_left d at a b (folded a) (folded b) (constant (folded a)) (expr_is a ok.0).value_is ok.0 ok.1 (expr_left a d ok.0) (expr_left b d ok.1)
    expr_left (assign at a b) d ok =
        left_two (keeps (expr_node a)) (keeps (expr_node b)) (true ∷ []) (site g sc None (an_expr a) ∷ []) (expr_sites g sc d b) (here d (assign at a b) ∷ []) (site g sc None (an_expr a) ∷ []) (expr_sites g sc d (folded b))
        (here d (assign at a (folded b)) ∷ []) (name_left a ok.0) (expr_left b d ok.1) (record { scope_is = refl; part_was = tt }, tt)

    args_left : (es : Args) (d : ℕ) → AreNamed es → Left (keeps_all (args_nodes es)) (args_sites g sc d es) (args_sites g sc d (folded_args es))
    args_left no_args d ok = tt
    args_left (arg e es) d ok =
        left_both (keeps (expr_node e)) (keeps_all (args_nodes es)) (expr_sites g sc d e) (args_sites g sc (suc d) es) (expr_sites g sc d (folded e)) (args_sites g sc (suc d) (folded_args es)) (expr_left e d ok.0) (args_left es (suc d) ok.1)

-- ---- statements declare what they did
mutual
  variables_same : (s : Stmt) → variables_in (folded_stmt s) ≡ variables_in s
  variables_same (var at x ty e) = refl
  variables_same (if_only at c a) = variables_same a
  variables_same (if_else at c a b) = λ i. variables_same a i + variables_same b i
  variables_same (stray_else at a) = variables_same a
  variables_same (while at c a) = variables_same a
  variables_same (return at e) = refl
  variables_same (block at ss) = all_variables_same ss
  variables_same (eval e) = refl
  variables_same (print at e) = refl

  all_variables_same : (ss : Stmts) → variables_in_all (folded_stmts ss) ≡ variables_in_all ss
  all_variables_same no_stmts = refl
  all_variables_same (stmt s ss) = λ i. variables_same s i + all_variables_same ss i

past_same : (sc : Scope) (s : Stmt) → past sc (folded_stmt s) ≡ past sc s
past_same sc s = ap (λ n. record sc { next = sc.next + n }) (variables_same s)

behind_same : (sc : Scope) (s : Stmt) → behind sc (folded_stmt s) ≡ behind sc s
behind_same sc (var at x ty e) = refl
behind_same sc (if_only at c a) = past_same sc (if_only at c a)
behind_same sc (if_else at c a b) = past_same sc (if_else at c a b)
behind_same sc (stray_else at a) = past_same sc (stray_else at a)
behind_same sc (while at c a) = past_same sc (while at c a)
behind_same sc (return at e) = past_same sc (return at e)
behind_same sc (block at ss) = past_same sc (block at ss)
behind_same sc (eval e) = past_same sc (eval e)
behind_same sc (print at e) = past_same sc (print at e)

-- ---- statements and functions
self_left : (g : ValueType) (sc : Scope) (s : Stmt) → Left (true ∷ []) (site g sc None (a_stmt s) ∷ []) (site g sc None (a_stmt (folded_stmt s)) ∷ [])
self_left g sc s = (record { scope_is = refl; part_was = (s, refl, refl) }, tt)

-- an expression and its statement
simple_left : (g : ValueType) (sc : Scope) (e : Expr) (s : Stmt) → IsNamed e
    → Left ((keeps (expr_node e) ++ []) ++ true ∷ []) (expr_sites g sc 0 e ++ site g sc None (a_stmt s) ∷ []) (expr_sites g sc 0 (folded e) ++ site g sc None (a_stmt (folded_stmt s)) ∷ [])
simple_left g sc e s ok =
    left_one (keeps (expr_node e)) (true ∷ []) (expr_sites g sc 0 e) (site g sc None (a_stmt s) ∷ []) (expr_sites g sc 0 (folded e)) (site g sc None (a_stmt (folded_stmt s)) ∷ []) (expr_left g sc e 0 ok) (self_left g sc s)

mutual
  stmt_left : (s : Stmt) (g : ValueType) (sc : Scope) → IsNamedStmt s → Left (keeps (stmt_node s)) (stmt_sites g sc s) (stmt_sites g sc (folded_stmt s))
  stmt_left (var at x ty e) g sc ok = simple_left g sc e (var at x ty e) ok
  stmt_left (if_only at c a) g sc ok =
      left_two (keeps (expr_node c)) (keeps (stmt_node a)) (true ∷ []) (expr_sites g sc 0 c) (stmt_sites g sc a) (site g sc None (a_stmt (if_only at c a)) ∷ []) (expr_sites g sc 0 (folded c)) (stmt_sites g sc (folded_stmt a))
      (site g sc None (a_stmt (folded_stmt (if_only at c a))) ∷ []) (expr_left g sc c 0 ok.0) (stmt_left a g sc ok.1) (self_left g sc (if_only at c a))
  stmt_left (if_else at c a b) g sc ok =
      let second = subst (λ q. Left (keeps (stmt_node b)) (stmt_sites g (past sc a) b) (stmt_sites g q (folded_stmt b))) (sym (past_same sc a)) (stmt_left b g (past sc a) ok.2) in
      let self = site g sc None (a_stmt (if_else at c a b)) ∷ [] in
      let self' = site g sc None (a_stmt (folded_stmt (if_else at c a b))) ∷ [] in
      subst (λ m. Left m (expr_sites g sc 0 c ++ (stmt_sites g sc a ++ (stmt_sites g (past sc a) b ++ self))) (expr_sites g sc 0 (folded c) ++ (stmt_sites g sc (folded_stmt a) ++ (stmt_sites g (past sc (folded_stmt a)) (folded_stmt b) ++ self'))))
      (three_flags (keeps (expr_node c)) (keeps (stmt_node a)) (keeps (stmt_node b)) (true ∷ []))
      (left_both (keeps (expr_node c)) (keeps (stmt_node a) ++ (keeps (stmt_node b) ++ true ∷ [])) (expr_sites g sc 0 c) (stmt_sites g sc a ++ (stmt_sites g (past sc a) b ++ self)) (expr_sites g sc 0 (folded c))
      (stmt_sites g sc (folded_stmt a) ++ (stmt_sites g (past sc (folded_stmt a)) (folded_stmt b) ++ self')) (expr_left g sc c 0 ok.0)
      (left_both (keeps (stmt_node a)) (keeps (stmt_node b) ++ true ∷ []) (stmt_sites g sc a) (stmt_sites g (past sc a) b ++ self) (stmt_sites g sc (folded_stmt a)) (stmt_sites g (past sc (folded_stmt a)) (folded_stmt b) ++ self') (stmt_left a g sc ok.1)
      (left_both (keeps (stmt_node b)) (true ∷ []) (stmt_sites g (past sc a) b) self (stmt_sites g (past sc (folded_stmt a)) (folded_stmt b)) self' second (self_left g sc (if_else at c a b)))))
  stmt_left (stray_else at a) g sc ok =
      left_one (keeps (stmt_node a)) (true ∷ []) (stmt_sites g sc a) (site g sc None (a_stmt (stray_else at a)) ∷ []) (stmt_sites g sc (folded_stmt a)) (site g sc None (a_stmt (folded_stmt (stray_else at a))) ∷ []) (stmt_left a g sc ok)
      (self_left g sc (stray_else at a))
  stmt_left (while at c a) g sc ok =
      left_two (keeps (expr_node c)) (keeps (stmt_node a)) (true ∷ []) (expr_sites g sc 0 c) (stmt_sites g sc a) (site g sc None (a_stmt (while at c a)) ∷ []) (expr_sites g sc 0 (folded c)) (stmt_sites g sc (folded_stmt a))
      (site g sc None (a_stmt (folded_stmt (while at c a))) ∷ []) (expr_left g sc c 0 ok.0) (stmt_left a g sc ok.1) (self_left g sc (while at c a))
  stmt_left (return at e) g sc ok = simple_left g sc e (return at e) ok
  stmt_left (block at ss) g sc ok =
      left_both (keeps_all (stmts_nodes ss)) (true ∷ []) (stmts_sites g (inner sc) ss) (site g sc None (a_stmt (block at ss)) ∷ []) (stmts_sites g (inner sc) (folded_stmts ss)) (site g sc None (a_stmt (folded_stmt (block at ss))) ∷ [])
      (stmts_left ss g (inner sc) ok) (self_left g sc (block at ss))
  stmt_left (eval e) g sc ok = simple_left g sc e (eval e) ok
  stmt_left (print at e) g sc ok = simple_left g sc e (print at e) ok

  stmts_left : (ss : Stmts) (g : ValueType) (sc : Scope) → AreNamedStmts ss → Left (keeps_all (stmts_nodes ss)) (stmts_sites g sc ss) (stmts_sites g sc (folded_stmts ss))
  stmts_left no_stmts g sc ok = tt
  stmts_left (stmt s ss) g sc ok =
      left_both (keeps (stmt_node s)) (keeps_all (stmts_nodes ss)) (stmt_sites g sc s) (stmts_sites g (behind sc s) ss) (stmt_sites g sc (folded_stmt s)) (stmts_sites g (behind sc (folded_stmt s)) (folded_stmts ss)) (stmt_left s g sc ok.0)
      (subst (λ q. Left (keeps_all (stmts_nodes ss)) (stmts_sites g (behind sc s) ss) (stmts_sites g q (folded_stmts ss))) (sym (behind_same sc s)) (stmts_left ss g (behind sc s) ok.1))

-- the parameters, and the body behind them
params_left : (qs : List Param) (g : ValueType) (sc : Scope) (body : Node) (ss ts : List Site) → Left (keeps body) ss ts → Left (keeps_all (params_nodes qs (one body))) (params_sites g sc qs ++ ss) (params_sites g sc qs ++ ts)
params_left [] g sc body ss ts h = subst (λ l. Left l ss ts) (sym (append_nil (keeps body))) h
params_left (q ∷ qs) g sc body ss ts h = (record { scope_is = refl; part_was = refl }, params_left qs g (declared sc q.at q.name q.type) body ss ts h)

function_left : (f : Function) → IsNamedStmt f.body → Left (keeps (function_node f)) (function_sites f) (function_sites (folded_function f))
function_left f ok =
    let ps = params_sites f.type no_scope f.params in
    let ss = stmt_sites f.type (body_scope f) f.body in
    let ts = stmt_sites f.type (body_scope f) (folded_stmt f.body) in
    let self = site f.type no_scope None (a_function f) ∷ [] in
    let self' = site f.type no_scope None (a_function (folded_function f)) ∷ [] in
    let whole = left_both (keeps_all (params_nodes f.params (one (stmt_node f.body)))) (true ∷ []) (ps ++ ss) self (ps ++ ts) self' (params_left f.params f.type no_scope (stmt_node f.body) ss ts (stmt_left f.body f.type (body_scope f) ok))
    (record { scope_is = refl; part_was = (f, refl, refl) }, tt) in
    subst (λ l. Left (keeps (function_node f)) l (ps ++ (ts ++ self'))) (append_assoc ps ss self) (subst (λ l. Left (keeps (function_node f)) ((ps ++ ss) ++ self) l) (append_assoc ps ts self') whole)

functions_left : (p : Program) → IsNamedProgram p → Left (keeps_all (functions_nodes p)) (flat_map function_sites p) (flat_map function_sites (folded_program p))
functions_left [] ok = tt
functions_left (f ∷ fs) ok =
    left_both (keeps (function_node f)) (keeps_all (functions_nodes fs)) (function_sites f) (flat_map function_sites fs) (function_sites (folded_function f)) (flat_map function_sites (folded_program fs)) (function_left f ok.0) (functions_left fs ok.1)

pub program_left : (p : Program) → IsNamedProgram p → Left (keeps (program_node p)) (sites p) (sites (folded_program p))
program_left p ok =
    left_both (keeps_all (functions_nodes p)) (true ∷ []) (flat_map function_sites p) (site Int no_scope None the_program ∷ []) (flat_map function_sites (folded_program p)) (site Int no_scope None the_program ∷ []) (functions_left p ok)
    (record { scope_is = refl; part_was = refl }, tt)
