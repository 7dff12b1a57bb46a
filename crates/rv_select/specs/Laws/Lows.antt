-- Where subtrees begin tells the children that jumps refer to: the second child of an if with an else ends right before its last child's
-- subtree, and a loop begins with its condition.
use Rattle.std.proofs.Common.{◌≡◌, ℕ, suc, ◌+◌, ◌-◌, ◌<◌, ◌≤◌, ◌⊎◌, inl, inr, Bool, true, false, cond, List, [], ◌∷◌, ◌++◌, length, None, refl, sym, ap, subst, ◌∙◌, arith, length-append, get_or}
use Rattle.std.proofs.lemmas.Bool.{cases_lt}
use Rattle.std.proofs.lemmas.List.FromFn.{get_or-map-range_with_len}
use Rattle.source_meaning.specs.declared.kinds.Kind.{Kind}
use Rattle.source_meaning.specs.declared.kinds.Kind.TheVariants.{Program as ProgramKind, Function as FunctionKind, Block, IfElse, While, Call}
use Rattle.source_meaning.specs.Ast.{Expr, num, truth, name, call, unary, binary, and, or, assign, Args, no_args, arg, Stmt, var, if_only, if_else, stray_else, while, return, block, eval, print, Stmts, no_stmts, stmt, Param, Program}
use Rattle.source_meaning.specs.Rows.{Row, Node, node, Nodes, last, next, nodes_rows, expr_node, args_nodes, stmt_node, stmts_nodes, params_nodes, one, functions_nodes, post}
use Rattle.ast_rows.specs.NodeRows.{low_at, parent_numbers}
use Rattle.ast_rows.specs.Subtrees.{nodes_lows}
use Rattle.ast_rows.specs.Laws.Subtrees.{lows_told, parents_many}
use Rattle.row_rules.specs.Visible.{no_row, row_at}
use Rattle.row_rules.specs.Steps.{parent_kind}
use Rattle.code_rules.specs.PieceRules.{is_operator}

no_true : ◌≡◌ {A = Bool} false true → ⊥
no_true h = cc

where_is : (k m : ℕ) → (k < m) ⊎ ((k ≡ m) ⊎ (m < k))
where_is k m = elim (cases_lt k m) [ inl a ↦ inl a | inr b ↦ elim (cases_lt m k) [ inl c ↦ inr (inr c) | inr d ↦ inr (inl (omega arith)) ] ]

-- ---- trees

abbrev is_branch : Kind → Bool
is_branch IfElse = true
is_branch kind = false

abbrev is_loop : Kind → Bool
is_loop While = true
is_loop kind = false

-- the inner nodes of an expression are operators
abbrev mutual
  IsExpr : Node → Type 0
  IsExpr (node k t cs) = AreOperands k cs

  AreOperands : Kind → Nodes → Type 0
  AreOperands k last = Unit {0}
  AreOperands k (next c cs) = (is_operator k ≡ true) × IsExpr c × AreOperands k cs

abbrev IsOne : Nodes → Type 0
IsOne last = ⊥
IsOne (next c last) = Unit {0}
IsOne (next c (next d ds)) = ⊥

-- the children of a node of this kind, the first of which has this place: behind the second child of an if with an else there is one,
-- and a loop's first child is an expression
abbrev Fits : Kind → ℕ → Nodes → Type 0
Fits k place last = Unit {0}
Fits k place (next c cs) = (k ≡ IfElse → place ≡ 1 → IsOne cs) × (k ≡ While → place ≡ 0 → IsExpr c) × Fits k (place + 1) cs

abbrev mutual
  IsFine : Node → Type 0
  IsFine (node k t cs) = (is_operator k ≡ true → AreOperands k cs) × (is_operator k ≡ false → Fits k 0 cs × AreFine cs)

  AreFine : Nodes → Type 0
  AreFine last = Unit {0}
  AreFine (next c cs) = IsFine c × AreFine cs

others_fit : (k : Kind) (place : ℕ) (cs : Nodes) → (k ≡ IfElse → ⊥) → (k ≡ While → ⊥) → Fits k place cs
others_fit k place last a b = tt
others_fit k place (next c cs) a b = (λ e h. absurd (a e), λ e h. absurd (b e), others_fit k (place + 1) cs a b)

mutual
  expr_is : (e : Expr) → IsExpr (expr_node e)
  expr_is (num at v) = tt
  expr_is (truth at b) = tt
  expr_is (name at x) = tt
  expr_is (call at f es) = args_are es
  expr_is (unary at op a) = (refl, expr_is a, tt)
  expr_is (binary at op a b) = (refl, expr_is a, (refl, expr_is b, tt))
  expr_is (and at a b) = (refl, expr_is a, (refl, expr_is b, tt))
  expr_is (or at a b) = (refl, expr_is a, (refl, expr_is b, tt))
  expr_is (assign at a b) = (refl, expr_is a, (refl, expr_is b, tt))

  args_are : (es : Args) → AreOperands Call (args_nodes es)
  args_are no_args = tt
  args_are (arg e es) = (refl, expr_is e, args_are es)

expr_fine : (e : Expr) → IsFine (expr_node e)
expr_fine (num at v) = (λ h. tt, λ h. (tt, tt))
expr_fine (truth at b) = (λ h. tt, λ h. (tt, tt))
expr_fine (name at x) = (λ h. tt, λ h. (tt, tt))
expr_fine (call at f es) = (λ h. args_are es, λ h. absurd (no_true (sym h)))
expr_fine (unary at op a) = (λ h. expr_is (unary at op a), λ h. absurd (no_true (sym h)))
expr_fine (binary at op a b) = (λ h. expr_is (binary at op a b), λ h. absurd (no_true (sym h)))
expr_fine (and at a b) = (λ h. expr_is (and at a b), λ h. absurd (no_true (sym h)))
expr_fine (or at a b) = (λ h. expr_is (or at a b), λ h. absurd (no_true (sym h)))
expr_fine (assign at a b) = (λ h. expr_is (assign at a b), λ h. absurd (no_true (sym h)))

mutual
  stmt_fine : (s : Stmt) → IsFine (stmt_node s)
  stmt_fine (var at x ty e) = (λ h. absurd (no_true h), λ h. ((λ q z. absurd (no_true (ap is_branch q)), λ q z. absurd (no_true (ap is_loop q)), tt), (expr_fine e, tt)))
  stmt_fine (if_only at c a) = (λ h. absurd (no_true h), λ h. ((λ q z. absurd (no_true (ap is_branch q)), λ q z. absurd (no_true (ap is_loop q)), (λ q z. absurd (no_true (ap is_branch q)), λ q z. absurd (no_true (ap is_loop q)), tt)), (expr_fine c, (stmt_fine a, tt))))
  stmt_fine (if_else at c a b) = (λ h. absurd (no_true h), λ h. ((λ q z. absurd (omega (arith, z)), λ q z. absurd (no_true (ap is_loop q)), (λ q z. tt, λ q z. absurd (no_true (ap is_loop q)), (λ q z. absurd (omega (arith, z)), λ q z. absurd (no_true (ap is_loop q)), tt))), (expr_fine c, (stmt_fine a, (stmt_fine b, tt)))))
  stmt_fine (stray_else at a) = (λ h. absurd (no_true h), λ h. ((λ q z. absurd (omega (arith, z)), λ q z. absurd (no_true (ap is_loop q)), tt), (stmt_fine a, tt)))
  stmt_fine (while at c a) = (λ h. absurd (no_true h), λ h. ((λ q z. absurd (no_true (ap is_branch q)), λ q z. expr_is c, (λ q z. absurd (no_true (ap is_branch q)), λ q z. absurd (omega (arith, z)), tt)), (expr_fine c, (stmt_fine a, tt))))
  stmt_fine (return at e) = (λ h. absurd (no_true h), λ h. ((λ q z. absurd (no_true (ap is_branch q)), λ q z. absurd (no_true (ap is_loop q)), tt), (expr_fine e, tt)))
  stmt_fine (print at e) = (λ h. absurd (no_true h), λ h. ((λ q z. absurd (no_true (ap is_branch q)), λ q z. absurd (no_true (ap is_loop q)), tt), (expr_fine e, tt)))
  stmt_fine (block at ss) = (λ h. absurd (no_true h), λ h. (others_fit Block 0 (stmts_nodes ss) (λ q. no_true (ap is_branch q)) (λ q. no_true (ap is_loop q)), stmts_fine ss))
  stmt_fine (eval e) = (λ h. absurd (no_true h), λ h. ((λ q z. absurd (no_true (ap is_branch q)), λ q z. absurd (no_true (ap is_loop q)), tt), (expr_fine e, tt)))

  stmts_fine : (ss : Stmts) → AreFine (stmts_nodes ss)
  stmts_fine no_stmts = tt
  stmts_fine (stmt s ss) = (stmt_fine s, stmts_fine ss)

params_fine : (ps : List Param) (rest : Nodes) → AreFine rest → AreFine (params_nodes ps rest)
params_fine [] rest h = h
params_fine (p ∷ ps) rest h = ((λ q. tt, λ q. (tt, tt)), params_fine ps rest h)

program_fine : (p : Program) → AreFine (functions_nodes p)
program_fine [] = tt
program_fine (f ∷ fs) =
    let kids = params_nodes f.params (one (stmt_node f.body)) in
    ((λ h. absurd (no_true h), λ h. (others_fit (FunctionKind f.type) 0 kids (λ q. no_true (ap is_branch q)) (λ q. no_true (ap is_loop q)), params_fine f.params (one (stmt_node f.body)) (stmt_fine f.body, tt))), program_fine fs)

-- ---- their rows
nodes_many : (cs : Nodes) (place i : ℕ) → length (nodes_lows i cs) ≡ length (nodes_rows place cs)
nodes_many last place i = refl
nodes_many (next (node k t kids) cs) place i =
    let rest = nodes_rows (place + 1) cs in
    let r : Row = record { kind = k; up = length rest + 1; token = t; place = place } in
    let a = nodes_many kids 0 i in
    let b = nodes_many cs (place + 1) (i + length (nodes_lows i kids ++ i ∷ [])) in
    omega (arith, a, b, length-append (nodes_lows i kids) (i ∷ []), length-append (nodes_rows 0 kids) (r ∷ []), length-append (nodes_lows i kids ++ i ∷ []) (nodes_lows (i + length (nodes_lows i kids ++ i ∷ [])) cs), length-append (nodes_rows 0 kids ++ r ∷ []) rest)

module _ {X : Type 0} (f : ℕ → X) where
  -- what each place from i on gives
  abbrev Gives : ℕ → List X → Type 0
  Gives i [] = Unit {0}
  Gives i (x ∷ xs) = (f i ≡ x) × Gives (i + 1) xs

  gives_first : (xs ys : List X) (i : ℕ) → Gives i (xs ++ ys) → Gives i xs
  gives_first [] ys i h = tt
  gives_first (x ∷ xs) ys i h = (h.0, gives_first xs ys (i + 1) h.1)

  gives_rest : (xs ys : List X) (i : ℕ) → Gives i (xs ++ ys) → Gives (i + length xs) ys
  gives_rest [] ys i h = let z : i ≡ i + 0 = omega arith in subst (λ (n : ℕ). Gives n ys) z h
  gives_rest (x ∷ xs) ys i h = let z : (i + 1) + length xs ≡ i + suc (length xs) = omega arith in subst (λ (n : ℕ). Gives n ys) z (gives_rest xs ys (i + 1) h.1)

  by_index : (d : X) (xs : List X) (i : ℕ) → ((k : ℕ) → k < length xs → f (i + k) ≡ get_or xs k d) → Gives i xs
  by_index d [] i h = tt
  by_index d (x ∷ xs) i h =
      let e : i + 0 ≡ i = omega arith in
      (ap f (sym e) ∙ h 0 (omega arith), by_index d xs (i + 1) (λ k l. let e' : (i + 1) + k ≡ i + suc k = omega arith in ap f e' ∙ h (suc k) (omega arith)))

-- the row before the parent of one child is that child's
last_low : (low : ℕ → ℕ) (cs : Nodes) (place j : ℕ) → IsOne cs → Gives low j (nodes_lows j cs) → low (j + length (nodes_rows place cs) - 1) ≡ j
last_low low last place j h l = absurd h
last_low low (next c (next d ds)) place j h l = absurd h
last_low low (next (node k t kids) last) place j h l =
    let lows = nodes_lows j kids in
    let l1 = gives_first low (lows ++ j ∷ []) [] j l in
    let many = nodes_many (next (node k t kids) last) place j in
    let all = length-append (lows ++ j ∷ []) [] in
    let here = length-append lows (j ∷ []) in
    let z : j + length (nodes_rows place (next (node k t kids) last)) - 1 ≡ j + length lows = omega arith in
    ap low z ∙ (gives_rest low lows (j ∷ []) j l1).0

in_either : (T : Type 0) (c : Bool) → (c ≡ true → T) → (c ≡ false → T) → T
in_either T true f g = f refl
in_either T false f g = g refl

module _ (row : ℕ → Row) (low begin : ℕ → ℕ) (top : ℕ) (begin_next : (k : ℕ) → k < top → begin (k + 1) ≡ cond (is_operator (row (k + (row k).up)).kind) (begin k) (k + 1)) where
  abbrev above : ℕ → Kind
  above k = (row (k + (row k).up)).kind

  record Told (k : ℕ) : Type 0 where
    second : above k ≡ IfElse → (row k).place ≡ 1 → low (k + (row k).up - 1) ≡ k + 1
    start : above k ≡ While → (row k).place ≡ 0 → begin k ≡ low (k + (row k).up)

  abbrev AllTold : ℕ → ℕ → Type 0
  AllTold i n = (k : ℕ) → i ≤ k → k < i + n → Told k

  told_by : (k : ℕ) → is_operator (above k) ≡ true → Told k
  told_by k h = record {
    second = λ e p. absurd (no_true (sym (ap is_operator e) ∙ h));
    start = λ e p. absurd (no_true (sym (ap is_operator e) ∙ h));
  }

  -- operands, which keep where their expression begins
  record Kept (i n : ℕ) : Type 0 where
    same : begin (i + n) ≡ begin i
    told : AllTold i n

  operands_keep : (cs : Nodes) (place i : ℕ) (k : Kind) → AreOperands k cs → (row (i + length (nodes_rows place cs))).kind ≡ k → i + length (nodes_rows place cs) ≤ top → Gives row i (nodes_rows place cs) → Kept i (length (nodes_rows place cs))
  operands_keep last place i k o here le g = let z : i + 0 ≡ i = omega arith in record { same = ap begin z; told = λ m a b. absurd (omega arith) }
  operands_keep (next (node kind t kids) cs) place i k o here le g =
      let rest = nodes_rows (place + 1) cs in
      let ks = nodes_rows 0 kids in
      let r : Row = record { kind = kind; up = length rest + 1; token = t; place = place } in
      let n = length ((ks ++ r ∷ []) ++ rest) in
      let long : length (ks ++ r ∷ []) ≡ length ks + 1 = length-append ks (r ∷ []) in
      let all : n ≡ length (ks ++ r ∷ []) + length rest = length-append (ks ++ r ∷ []) rest in
      let g1 = gives_first row (ks ++ r ∷ []) rest i g in
      let root : row (i + length ks) ≡ r = (gives_rest row ks (r ∷ []) i g1).0 in
      let z : i + length ks + (length rest + 1) ≡ i + n = omega arith in
      let up : above (i + length ks) ≡ k = ap (λ (x : Row). (row (i + length ks + x.up)).kind) root ∙ ap (λ (m : ℕ). (row m).kind) z ∙ here in
      let inner : Kept i (length ks) = operands_keep kids 0 i kind o.1 (ap (λ (x : Row). x.kind) root) (omega arith) (gives_first row ks (r ∷ []) i g1) in
      let step : begin (i + length ks + 1) ≡ begin (i + length ks) = begin_next (i + length ks) (omega arith) ∙ ap (λ (q : Kind). cond (is_operator q) (begin (i + length ks)) (i + length ks + 1)) up ∙ ap (λ (b : Bool). cond b (begin (i + length ks)) (i + length ks + 1)) o.0 in
      let y : i + length (ks ++ r ∷ []) ≡ i + length ks + 1 = omega arith in
      let x : i + length ks + 1 + length rest ≡ i + n = omega arith in
      let outer : Kept (i + length ks + 1) (length rest) = operands_keep cs (place + 1) (i + length ks + 1) k o.2 (ap (λ (m : ℕ). (row m).kind) x ∙ here) (omega arith) (subst (λ (m : ℕ). Gives row m rest) y (gives_rest row (ks ++ r ∷ []) rest i g)) in
      record {
        same = ap begin (sym x) ∙ outer.same ∙ step ∙ inner.same;
        told = λ m a b. elim (where_is m (i + length ks)) [
          | inl l ↦ inner.told m a l
          | inr (inl e) ↦ told_by m (ap (λ (n : ℕ). is_operator (above n)) e ∙ ap is_operator up ∙ o.0)
          | inr (inr l) ↦ outer.told m (omega arith) (omega arith)
        ];
      }

  nodes_told : (cs : Nodes) (place i : ℕ) (k : Kind) → is_operator k ≡ false → Fits k place cs → AreFine cs → (row (i + length (nodes_rows place cs))).kind ≡ k → (place ≡ 0 → low (i + length (nodes_rows place cs)) ≡ i)
      → begin i ≡ i → i + length (nodes_rows place cs) ≤ top → Gives row i (nodes_rows place cs) → Gives low i (nodes_lows i cs) → AllTold i (length (nodes_rows place cs))
  nodes_told last place i k plain fit fine here from b le g l = λ m x y. absurd (omega arith)
  nodes_told (next (node kind t kids) cs) place i k plain fit fine here from b le g l =
      let rest = nodes_rows (place + 1) cs in
      let ks = nodes_rows 0 kids in
      let r : Row = record { kind = kind; up = length rest + 1; token = t; place = place } in
      let lows = nodes_lows i kids in
      let n = length ((ks ++ r ∷ []) ++ rest) in
      let a = i + length ks in
      let many = nodes_many kids 0 i in
      let long : length (ks ++ r ∷ []) ≡ length ks + 1 = length-append ks (r ∷ []) in
      let long_lows : length (lows ++ i ∷ []) ≡ length lows + 1 = length-append lows (i ∷ []) in
      let all : n ≡ length (ks ++ r ∷ []) + length rest = length-append (ks ++ r ∷ []) rest in
      let g1 = gives_first row (ks ++ r ∷ []) rest i g in
      let l1 = gives_first low (lows ++ i ∷ []) (nodes_lows (i + length (lows ++ i ∷ [])) cs) i l in
      let gk = gives_first row ks (r ∷ []) i g1 in
      let root : row a ≡ r = (gives_rest row ks (r ∷ []) i g1).0 in
      let w : i + length ks ≡ i + length lows = omega arith in
      let first : low a ≡ i = ap low w ∙ (gives_rest low lows (i ∷ []) i l1).0 in
      let z : a + (length rest + 1) ≡ i + n = omega arith in
      let at_up : a + (row a).up ≡ i + n = ap (λ (x : Row). a + x.up) root ∙ z in
      let up : above a ≡ k = ap (λ (m : ℕ). (row m).kind) at_up ∙ here in
      let at_place : (row a).place ≡ place = ap (λ (x : Row). x.place) root in
      let step : begin (a + 1) ≡ a + 1 = begin_next a (omega arith) ∙ ap (λ (q : Kind). cond (is_operator q) (begin a) (a + 1)) up ∙ ap (λ (c : Bool). cond c (begin a) (a + 1)) plain in
      let y : i + length (ks ++ r ∷ []) ≡ a + 1 = omega arith in
      let y' : i + length (lows ++ i ∷ []) ≡ a + 1 = omega arith in
      let x : a + 1 + length rest ≡ i + n = omega arith in
      let lr : Gives low (a + 1) (nodes_lows (a + 1) cs) = subst (λ (m : ℕ). Gives low m (nodes_lows m cs)) y' (gives_rest low (lows ++ i ∷ []) (nodes_lows (i + length (lows ++ i ∷ [])) cs) i l) in
      let own_kind : (row a).kind ≡ kind = ap (λ (x : Row). x.kind) root in
      let kids_low : a ≤ top = omega arith in
      let inner : AllTold i (length ks) = in_either (AllTold i (length ks)) (is_operator kind)
      (λ e. (operands_keep kids 0 i kind (fine.0.0 e) own_kind kids_low gk).told)
      (λ e. nodes_told kids 0 i kind e (fine.0.1 e).0 (fine.0.1 e).1 own_kind (λ q. first) b kids_low gk (gives_first low lows (i ∷ []) i l1)) in
      let outer : AllTold (a + 1) (length rest) = nodes_told cs (place + 1) (a + 1) k plain fit.2 fine.1 (ap (λ (m : ℕ). (row m).kind) x ∙ here) (λ q. absurd (omega (arith, q))) step (omega arith) (subst (λ (m : ℕ). Gives row m rest) y (gives_rest row (ks ++ r ∷ []) rest i g)) lr in
      let before : i + n - 1 ≡ a + 1 + length rest - 1 = omega arith in
      let own : Told a = record {
        second = λ e q. ap (λ (m : ℕ). low (m - 1)) at_up ∙ ap low before ∙ last_low low cs (place + 1) (a + 1) (fit.0 (sym up ∙ e) (sym at_place ∙ q)) lr;
        start = λ e q. (operands_keep kids 0 i kind (fit.1 (sym up ∙ e) (sym at_place ∙ q)) own_kind kids_low gk).same ∙ b ∙ sym (from (sym at_place ∙ q)) ∙ ap low (sym at_up);
      } in
      λ m c d. elim (where_is m a) [
        | inl s ↦ inner m c s
        | inr (inl e) ↦ subst Told (sym e) own
        | inr (inr s) ↦ outer m (omega arith) (omega arith)
      ]

-- what is told of the children of a program's rows, where begin is where the expression that ends at a row begins
module _ (p : Program) (begin : ℕ → ℕ) (begin_first : begin 0 ≡ 0) (begin_next : (k : ℕ) → k < length (post p) → begin (k + 1) ≡ cond (is_operator (parent_kind p k)) (begin k) (k + 1)) where
  abbrev Child : ℕ → Type 0
  Child k = Told (row_at p) (low_at (parent_numbers 0 (post p))) begin (length (post p)) begin_next k

  children : (k : ℕ) → k < length (post p) → Child k
  children k lt =
      let rs = nodes_rows 0 (functions_nodes p) in
      let r : Row = record { kind = ProgramKind; up = 0; token = None; place = 0 } in
      let parents = parent_numbers 0 (post p) in
      let lows = nodes_lows 0 (functions_nodes p) in
      let rows : Gives (row_at p) 0 (post p) = by_index (row_at p) no_row (post p) 0 (λ n l. let z : 0 + n ≡ n = omega arith in ap (row_at p) z) in
      let long : length parents ≡ length (post p) = parents_many (post p) 0 in
      let many = nodes_many (functions_nodes p) 0 0 in
      let all_rows : length (post p) ≡ length rs + 1 = length-append rs (r ∷ []) in
      let all_lows : length (lows ++ 0 ∷ []) ≡ length lows + 1 = length-append lows (0 ∷ []) in
      let told : Gives (low_at parents) 0 (lows ++ 0 ∷ []) = by_index (low_at parents) 0 (lows ++ 0 ∷ []) 0 (λ n l. let z : 0 + n ≡ n = omega arith in
      sym (get_or-map-range_with_len (low_at parents) 0 (length parents) n (0 + n) 0 (omega arith) refl) ∙ ap (λ (l : List ℕ). get_or l n 0) (lows_told p)) in
      let root : row_at p (0 + length rs) ≡ r = (gives_rest (row_at p) rs (r ∷ []) 0 rows).0 in
      let same : 0 + length lows ≡ 0 + length rs = omega arith in
      let from : low_at parents (0 + length rs) ≡ 0 = ap (low_at parents) (sym same) ∙ (gives_rest (low_at parents) lows (0 ∷ []) 0 told).0 in
      let all = nodes_told (row_at p) (low_at parents) begin (length (post p)) begin_next (functions_nodes p) 0 0 ProgramKind refl (others_fit ProgramKind 0 (functions_nodes p) (λ q. no_true (ap is_branch q)) (λ q. no_true (ap is_loop q))) (program_fine p)
      (ap (λ (x : Row). x.kind) root) (λ q. from) begin_first (omega arith) (gives_first (row_at p) rs (r ∷ []) 0 rows) (gives_first (low_at parents) lows (0 ∷ []) 0 told) in
      elim (cases_lt k (length rs)) [
        | inl l ↦ all k (omega arith) (omega arith)
        | inr over ↦ (let z : 0 + length rs ≡ k = omega arith in
            let z' : 0 + length rs + 0 ≡ 0 + length rs = omega arith in
            let up : parent_kind p (0 + length rs) ≡ ProgramKind = ap (λ (x : Row). (row_at p (0 + length rs + x.up)).kind) root ∙ ap (λ (m : ℕ). (row_at p m).kind) z' ∙ ap (λ (x : Row). x.kind) root in
            subst Child z (record { second = λ e q. absurd (no_root (sym up ∙ e)); start = λ e q. absurd (no_loop (sym up ∙ e)) }))
      ]
    where
      no_root : ProgramKind ≡ IfElse → ⊥
      no_root h = no_true (ap is_branch h)

      no_loop : ProgramKind ≡ While → ⊥
      no_loop h = no_true (ap is_loop h)

  -- behind the second child of an if with an else its last child's subtree begins
  pub second_told : (k : ℕ) → k < length (post p) → parent_kind p k ≡ IfElse → (row_at p k).place ≡ 1 → low_at (parent_numbers 0 (post p)) (k + (row_at p k).up - 1) ≡ k + 1
  second_told k lt e q = (children k lt).second e q

  -- a loop begins where its condition does
  pub start_told : (k : ℕ) → k < length (post p) → parent_kind p k ≡ While → (row_at p k).place ≡ 0 → begin k ≡ low_at (parent_numbers 0 (post p)) (k + (row_at p k).up)
  start_told k lt e q = (children k lt).start e q
