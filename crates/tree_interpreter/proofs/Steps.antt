-- What each kind of node leaves to do.
use Rattle.std.proofs.Common.{◌≡◌, ℕ, zero, suc, ◌+◌, ◌-◌, ◌≤◌, List, [], ◌∷◌, ◌++◌, Option, Some, None, option_map, Result, Bor, slice_set, replicate, length, map, nat_lt, false, refl, sym, ap, subst, ◌∙◌, arith}
use Rattle.std.proofs.lemmas.List.{append_assoc, append-nil}
use Rattle.std.specs.Global.{Vec}
use Rattle.source_meaning.specs.Ast.{Expr as ExprTree, call, unary, binary, and, or, assign, Args as ArgsTree, no_args, arg, Stmt as StmtTree, var, if_only, if_else, while, return, block, eval, print, no_stmts, stmt, Function as FunctionTree, Program}
use Rattle.source_meaning.specs.Operators.{unary_value, binary_value}
use Rattle.source_meaning.specs.Scope.{Scope, function_of, behind, inner, variables_in, body_scope, no_scope}
use Rattle.source_meaning.specs.Frames.{frame}
use Rattle.source_meaning.specs.Meaning.{Run, gave, stopped, gives, ◌>>=◌, Table, World, End, value, values, called, returned, ended, run, run_all, then_next, loop, target, stored_in}
use Rattle.tree_interpreter.specs.Trees.{expr_of, args_of, stmt_of, stmts_of}
use Rattle.tree_interpreter.specs.Numbering.{next_in}
use Rattle.tree_interpreter.specs.Running.{named, name_of, variable_named, scope_with, stored_numbered}
use Rattle.tree_interpreter.specs.Resuming.{Opened, opened, with_table, stacked, behind_said, onwards, turned, resume, leave, world_in, run_in, run_all_in, IsChosen, condition_of, body_of}
use Rattle.tree_interpreter.specs.Weights.{expr_weight, stmt_weight, stmts_weight, turns_weight, heaviest, call_weight, rests_weight}
use Rattle.tree_interpreter.specs.Walking.{Follows, HasValue, Leaves, Leads, Puts, Gives, EvaluatesThen, Evaluates, Starts, Computes, Opens, Begins, Enters, Runs, RunsAll, Resumes, Departs, program_in, with_value, settled, evaluated_then, ran, weigh, weigh_rests, weight_of_call}
use Rattle.tree_interpreter.specs.declared.trees.Expr.{Expr}
use Rattle.tree_interpreter.specs.declared.trees.Args.{Args}
use Rattle.tree_interpreter.specs.declared.trees.Stmt.{Stmt}
use Rattle.tree_interpreter.specs.declared.trees.Stmt.TheVariants.{Var, If', IfElse', StrayElse', While', Return as Return', Block, Eval, Print as Print'}
use Rattle.source_meaning.specs.declared.kinds.UnaryOp.{UnaryOp}
use Rattle.source_meaning.specs.declared.kinds.BinaryOp.{BinaryOp}
use Rattle.source_meaning.specs.declared.kinds.ValueType.{ValueType}
use Rattle.tree_interpreter.specs.declared.names.Named.{Named}
use Rattle.tree_interpreter.specs.declared.names.Names.{Names}
use Rattle.tree_interpreter.specs.declared.rests.OpenCall.{OpenCall}
use Rattle.tree_interpreter.specs.declared.rests.Placed.{Placed}
use Rattle.tree_interpreter.specs.declared.rests.Branches.{Branches}
use Rattle.tree_interpreter.specs.declared.rests.PlacedAll.{PlacedAll}
use Rattle.tree_interpreter.specs.declared.rests.Loop.{Loop}
use Rattle.tree_interpreter.specs.declared.rests.Rests.{Rests}
use Rattle.tree_interpreter.specs.declared.rests.Rest.{Rest}
use Rattle.tree_interpreter.specs.declared.rests.Rest.TheVariants.{Unary, Right, Binary, And, Or, Store, Argument, Initialize, Discard, RunAll, Declare, Forget, If, IfElse, Turn, Again, Return, Print, Caller}
use Rattle.tree_interpreter.specs.declared.interpreter.Stop.{Stop}
use Rattle.tree_interpreter.specs.declared.interpreter.Walker.{Walker}
use Rattle.tree_interpreter.proofs.Onwards.{onwards_after, onwards_alike, went_as, loop_turned}
use Rattle.tree_interpreter.proofs.Named.{stored_by_number, names_named, params_next}
use Rattle.tree_interpreter.proofs.Called.{call_is}
use Rattle.tree_interpreter.proofs.SameScope.{value_alike, run_alike, run_all_alike}

-- three steps before others
pub three : (a b c k : List Rest) (x y z : Rest) → a ≡ x ∷ b → b ≡ y ∷ c → c ≡ z ∷ k → a ≡ x ∷ (y ∷ (z ∷ k))
three a b c k x y z h i j = h ∙ ap (λ l. x ∷ l) (i ∙ ap (λ l. y ∷ l) j)

-- behind a statement that declares nothing of its own
pub other_behind : (s : Stmt) (ns : List (List ℕ × ℕ)) (next after : ℕ) → ((at : ℕ) (x : _) (ty : ValueType) (e : _) → s ≡ Var at x ty e → ⊥) → after ≡ next + variables_in (stmt_of s) → behind (scope_with ns next) (stmt_of s) ≡ scope_with ns after
other_behind (Var at x ty e) ns next after not is = absurd (not at x ty e refl)
other_behind (If' at c p a) ns next after not is = ap (λ n. scope_with ns n) (sym is)
other_behind (IfElse' at c p a q b) ns next after not is = ap (λ n. scope_with ns n) (sym is)
other_behind (StrayElse' at p a) ns next after not is = ap (λ n. scope_with ns n) (sym is)
other_behind (While' at c p a) ns next after not is = ap (λ n. scope_with ns n) (sym is)
other_behind (Return' at e) ns next after not is = ap (λ n. scope_with ns n) (sym is)
other_behind (Block at ss) ns next after not is = ap (λ n. scope_with ns n) (sym is)
other_behind (Eval e) ns next after not is = ap (λ n. scope_with ns n) (sym is)
other_behind (Print' at e) ns next after not is = ap (λ n. scope_with ns n) (sym is)

-- statements that come before other steps
pub follows_some : (r s : Rests) (q : PlacedAll) → stacked s ≡ RunAll q ∷ stacked r → Follows r q s
follows_some r s q is = record {
  same = λ p turns o x. ap (λ k. elim x [ None ↦ resume p turns k o 0 | Some v ↦ leave p turns k v ]) is;
  fewer = λ fs turns calls. omega (arith, ap (λ k. rests_weight fs turns calls k) is);
}

pub follows_none : (r : Rests) (q : PlacedAll) → stmts_of q.statements.now ≡ no_stmts → Follows r q r
follows_none r q none = record { same = nothing; fewer = λ fs turns calls. omega arith }
  where
    nothing : (p : Program) (turns : ℕ) (o : Opened) (x : Option ℕ) → ◌≡◌ {A = End} (elim x [ None ↦ resume p turns (stacked r) o 0 | Some v ↦ leave p turns (stacked r) v ]) (elim x [ None ↦ resume p turns (RunAll q ∷ stacked r) o 0 | Some v ↦ leave p turns (RunAll q ∷ stacked r) v ])
    nothing p turns o None = sym (ap (λ ss. onwards (run_all_in p turns o (next_in q.numbering.now) ss) (λ s t. elim s [ None ↦ resume p turns (stacked r) (with_table o t) 0 | Some v ↦ leave p turns (stacked r) v ])) none)
    nothing p turns o (Some v) = refl

-- in the open call of a walker
abbrev pub V : Walker → Table → ExprTree → Run ℕ
V w t e = value (world_in (program_in w) w.turns (opened w.call)) (scope_with (opened w.call).names 0) t e

abbrev pub R : Walker → ℕ → Table → StmtTree → Run (Option ℕ)
R w next t s = run (world_in (program_in w) w.turns (opened w.call)) (scope_with (opened w.call).names next) t s

abbrev pub Vs : Walker → Table → ArgsTree → Run (List ℕ)
Vs w t es = values (world_in (program_in w) w.turns (opened w.call)) (scope_with (opened w.call).names 0) t es

abbrev pub Called : Walker → List ℕ → List ℕ → Table → Run ℕ
Called w f vs t = called (world_in (program_in w) w.turns (opened w.call)) (function_of (program_in w) f) vs t

abbrev pub Next : Walker → ℕ → Table → End
Next w y t = resume (program_in w) w.turns (stacked w.rests) (with_table (opened w.call) t) y

abbrev pub Settle : Walker → Option ℕ → Table → End
Settle w r t = elim r [ None ↦ Next w 0 t | Some v ↦ leave (program_in w) w.turns (stacked w.rests) v ]

module _ (w : Walker) (y : Result (Unit {0}) Stop) (v : Walker) where
  -- an expression whose value is known
  pub at_once : (e : ExprTree) (rest : Rest) (x : ℕ) → HasValue w.call e x → Resumes (record w { value = x }) (rest ∷ stacked w.rests) y v → EvaluatesThen w e rest y v
  at_once e rest x is h = record { went = went_as _ _ _ _ y v h.went (ap (λ q. onwards q (λ z t. resume (program_in w) w.turns (rest ∷ stacked w.rests) (with_table (opened w.call) t) z)) (is (program_in w) w.turns)) (omega arith) }

  pub value_pushed : (e : ExprTree) (rest : Rest) (x : ℕ) (r : Rests) → stacked r ≡ rest ∷ stacked w.rests → HasValue w.call e x → Gives (record w { rests = r }) x y v → EvaluatesThen w e rest y v
  value_pushed e rest x r pushed is h =
      record {
        went = went_as _ _ _ _ y v h.went
            (ap (λ q. onwards q (λ z t. resume (program_in w) w.turns (rest ∷ stacked w.rests) (with_table (opened w.call) t) z)) (is (program_in w) w.turns)
            ∙ ap (λ k. resume (program_in w) w.turns k (opened w.call) x) (sym pushed))
            (omega (arith, ap (λ k. weigh_rests w k) pushed));
      }

  pub applied_goes : (e : ExprTree) (op : BinaryOp) (x z u : ℕ) → HasValue w.call e z → u ≡ binary_value op x z → Gives w u y v → EvaluatesThen w e (Binary op x) y v
  applied_goes e op x z u is comes h =
      record {
        went = went_as _ _ _ _ y v h.went
            (ap (λ q. onwards q (λ m t. resume (program_in w) w.turns (Binary op x ∷ stacked w.rests) (with_table (opened w.call) t) m)) (is (program_in w) w.turns)
            ∙ ap (λ m. resume (program_in w) w.turns (stacked w.rests) (opened w.call) m) (sym comes))
            (omega arith);
      }

  pub right_goes : (e : ExprTree) (op : BinaryOp) (r : Bor Expr) (x : ℕ) → HasValue w.call e x → EvaluatesThen w (expr_of r.now) (Binary op x) y v → EvaluatesThen w e (Right op r) y v
  right_goes e op r x is h =
      record {
        went = went_as _ _ _ _ y v h.went
            (ap (λ q. onwards q (λ m t. resume (program_in w) w.turns (Right op r ∷ stacked w.rests) (with_table (opened w.call) t) m)) (is (program_in w) w.turns))
            (omega arith);
      }

  pub departs_goes : Departs w y v → Resumes w (Return ∷ stacked w.rests) y v
  departs_goes h = record { went = went_as _ _ _ _ y v h.went refl (omega arith) }

  -- an expression that was computed for what it does
  pub discarded_goes : (e : ExprTree) (x : ℕ) (d : OpenCall) → Leaves w.call e x d → Gives (record w { call = d }) 0 y v → EvaluatesThen w e Discard y v
  discarded_goes e x d is h =
      record {
        went = went_as _ _ _ _ y v h.went
            (ap (λ q. onwards q (λ z t. resume (program_in w) w.turns (stacked w.rests) (with_table (opened w.call) t) 0)) (is.has (program_in w) w.turns)
            ∙ ap (λ o. resume (program_in w) w.turns (stacked w.rests) o 0) (sym is.kept))
            (omega (arith, ap (λ o. rests_weight w.functions.now w.turns o.calls (stacked w.rests)) is.kept));
      }

  -- an expression that is begun behind a step
  pub started_goes : (e : ExprTree) (rest : Rest) (r : Rests) → stacked r ≡ rest ∷ stacked w.rests → Starts (record w { rests = r }) e y v → EvaluatesThen w e rest y v
  started_goes e rest r is h =
      record {
        went = went_as _ _ _ _ y v h.went
            (ap (λ k. onwards (V w w.call.table.items e) (λ z t. resume (program_in w) w.turns k (with_table (opened w.call) t) z)) (sym is))
            (omega (arith, ap (λ k. weigh_rests w k) is));
      }

  pub call_starts : (at : ℕ) (f : List ℕ) (es : ArgsTree) → Computes w f [] es y v → Starts w (call at f es) y v
  call_starts at f es h = record { went = went_as _ _ _ _ y v h.went refl (omega arith) }

  -- a call with arguments that are known
  pub put_goes : (f known more : List ℕ) (es rest : ArgsTree) → Puts w.call known es more rest → Computes w f more rest y v → Computes w f known es y v
  put_goes f known more es rest is h = record { went = went_as _ _ _ _ y v h.went (ap (λ q. with_value w q) (is.does (program_in w) w.turns f)) (omega (arith, is.fewer (weight_of_call w) w.turns)) }

  -- statements of which the first ones are done
  settled_kept : (d : OpenCall) → opened d ≡ with_table (opened w.call) d.table.items → (q : Run (Option ℕ)) → settled w q ≡ settled (record w { call = d }) q
  settled_kept d kept q = ap (λ o. onwards q (λ s t. elim s [ None ↦ resume (program_in w) w.turns (stacked w.rests) (with_table o t) 0 | Some z ↦ leave (program_in w) w.turns (stacked w.rests) z ])) (sym kept)

  pub led_goes : (q r : PlacedAll) (d : OpenCall) → Leads w.call q d r → RunsAll (record w { call = d }) (next_in r.numbering.now) (stmts_of r.statements.now) y v → RunsAll w (next_in q.numbering.now) (stmts_of q.statements.now) y v
  led_goes q r d is h =
      record {
        went = went_as _ _ _ _ y v h.went
            (ap (λ m. settled w m) (is.does (program_in w) w.turns) ∙ settled_kept d is.kept _)
            (omega (arith, is.fewer (weight_of_call w) w.turns, ap (λ o. stmts_weight (call_weight w.functions.now w.turns o.calls) w.turns (stmts_of r.statements.now) + rests_weight w.functions.now w.turns o.calls (stacked w.rests)) is.kept));
      }

  pub begin_goes : (q r : PlacedAll) (d : OpenCall) (s : Rests) → Leads w.call q d r → Follows w.rests r s → Gives (record w { call = d; rests = s }) 0 y v → Begins w (next_in q.numbering.now) (stmts_of q.statements.now) y v
  begin_goes q r d s is follows h =
      record {
        went = went_as _ _ _ _ y v h.went
            (ap (λ m. settled w m) (is.does (program_in w) w.turns)
            ∙ settled_kept d is.kept _
            ∙ sym (follows.same (program_in w) w.turns (opened d) None))
            (omega (arith, is.fewer (weight_of_call w) w.turns, follows.fewer w.functions.now w.turns w.call.calls, ap (λ o. rests_weight w.functions.now w.turns o.calls (stacked s)) is.kept));
      }

  pub block_goes : (at next : ℕ) (ss : _) → Begins w next ss y v → Runs w next (block at ss) y v
  block_goes at next ss h = record {
    went = went_as _ _ _ _ y v h.went
        (ap (λ m. settled w m) (run_all_alike (world_in (program_in w) w.turns (opened w.call)) ss (inner (scope_with (opened w.call).names next)) (scope_with (opened w.call).names next) w.call.table.items (refl, refl)))
        (omega arith);
  }

  pub block_enters : (at next : ℕ) (ss : _) → Begins w next ss y v → Enters w next (block at ss) y v
  block_enters at next ss h = record { went = went_as _ _ _ _ y v (block_goes at next ss h).went refl (omega arith) }

  pub unary_goes : (at : ℕ) (op : UnaryOp) (a : ExprTree) → EvaluatesThen w a (Unary op) y v → Evaluates w (unary at op a) y v
  unary_goes at op a h = record { went = went_as _ _ _ _ y v h.went (onwards_after (V w w.call.table.items a) (λ x u. gives (unary_value op x) u) (Next w)) (omega arith) }

  pub binary_goes : (at : ℕ) (op : BinaryOp) (a : ExprTree) (r : Bor Expr) → EvaluatesThen w a (Right op r) y v → Evaluates w (binary at op a (expr_of r.now)) y v
  binary_goes at op a r h =
      record {
        went = went_as _ _ _ _ y v h.went
            (onwards_after (V w w.call.table.items a) (λ x u. V w u (expr_of r.now) >>= λ z t. gives (binary_value op x z) t) (Next w)
            ∙ onwards_alike (V w w.call.table.items a) _ _ (λ x u. onwards_after (V w u (expr_of r.now)) (λ z t. gives (binary_value op x z) t) (Next w)))
            (omega arith);
      }

  pub and_goes : (at : ℕ) (a : ExprTree) (r : Bor Expr) → EvaluatesThen w a (And r) y v → Evaluates w (and at a (expr_of r.now)) y v
  and_goes at a r h = record { went = went_as _ _ _ _ y v h.went (onwards_after (V w w.call.table.items a) (λ x u. elim x [ zero ↦ gives zero u | suc n ↦ V w u (expr_of r.now) ]) (Next w)) (omega arith) }

  pub or_goes : (at : ℕ) (a : ExprTree) (r : Bor Expr) → EvaluatesThen w a (Or r) y v → Evaluates w (or at a (expr_of r.now)) y v
  or_goes at a r h = record { went = went_as _ _ _ _ y v h.went (onwards_after (V w w.call.table.items a) (λ x u. elim x [ zero ↦ V w u (expr_of r.now) | suc n ↦ gives (suc n) u ]) (Next w)) (omega arith) }

  pub assign_goes : (at : ℕ) (a b : ExprTree) (n : Option ℕ) → n ≡ option_map (λ x. x.number) (target (scope_with (opened w.call).names 0) a) → EvaluatesThen w b (Store n) y v → Evaluates w (assign at a b) y v
  assign_goes at a b n is h =
      record {
        went = went_as _ _ _ _ y v h.went
            (onwards_after (V w w.call.table.items b) (λ x u. gives x (stored_in (target (scope_with (opened w.call).names 0) a) x u)) (Next w)
            ∙ onwards_alike (V w w.call.table.items b) _ _ (λ x u. ap (λ t. Next w x t) (stored_by_number (target (scope_with (opened w.call).names 0) a) x u ∙ ap (λ m. stored_numbered m x u) (sym is))))
            (omega arith);
      }

  pub argument_goes : (f : Bor (Vec ℕ)) (known : _) (e : ExprTree) (r : Bor Args) → EvaluatesThen w e (Argument f known r) y v →
      Computes w f.now.items known.items (arg e (args_of r.now)) y v
  argument_goes f known e r h =
      record {
        went = went_as _ _ _ _ y v h.went
            (onwards_after (V w w.call.table.items e >>= λ x u. Vs w u (args_of r.now) >>= λ xs z. gives (x ∷ xs) z) (λ vs t. Called w f.now.items (known.items ++ vs) t) (Next w)
            ∙ onwards_after (V w w.call.table.items e) (λ x u. Vs w u (args_of r.now) >>= λ xs z. gives (x ∷ xs) z) (λ vs t. onwards (Called w f.now.items (known.items ++ vs) t) (Next w))
            ∙ onwards_alike (V w w.call.table.items e) _ _ (λ x u.
            onwards_after (Vs w u (args_of r.now)) (λ xs z. gives (x ∷ xs) z) (λ vs t. onwards (Called w f.now.items (known.items ++ vs) t) (Next w))
            ∙ onwards_alike (Vs w u (args_of r.now)) _ _ (λ vs t. ap (λ l. onwards (Called w f.now.items l t) (Next w)) (sym (append_assoc known.items (x ∷ []) vs)))
            ∙ sym (onwards_after (Vs w u (args_of r.now)) (λ vs t. Called w f.now.items ((known.items ++ x ∷ []) ++ vs) t) (Next w))))
            (omega arith);
      }

  -- a statement that begins with an expression
  after_value : (next : ℕ) (e : ExprTree) (f : ℕ → Table → Run (Option ℕ)) (rest : Rest) →
      ((x : ℕ) (t : Table) → settled w (f x t) ≡ resume (program_in w) w.turns (rest ∷ stacked w.rests) (with_table (opened w.call) t) x) →
      settled w (value (world_in (program_in w) w.turns (opened w.call)) (scope_with (opened w.call).names next) w.call.table.items e >>= f) ≡ evaluated_then w e rest
  after_value next e f rest h =
      ap (λ q. settled w (q >>= f)) (value_alike (world_in (program_in w) w.turns (opened w.call)) e (scope_with (opened w.call).names next) (scope_with (opened w.call).names 0) w.call.table.items refl)
      ∙ onwards_after (V w w.call.table.items e) f (Settle w)
      ∙ onwards_alike (V w w.call.table.items e) _ _ h

  pub var_goes : (at next : ℕ) (x : List ℕ) (ty : ValueType) (e : ExprTree) → EvaluatesThen w e (Initialize next) y v → Runs w next (var at x ty e) y v
  var_goes at next x ty e h = record { went = went_as _ _ _ _ y v h.went (after_value next e (λ z u. gives None (slice_set u next z)) (Initialize next) (λ z t. refl)) (omega arith) }

  pub if_goes : (at : ℕ) (e : ExprTree) (q : Placed) → EvaluatesThen w e (If q) y v → Runs w (next_in q.numbering.now) (if_only at e (stmt_of q.statement.now)) y v
  if_goes at e q h = record { went = went_as _ _ _ _ y v h.went (after_value (next_in q.numbering.now) e _ (If q) (λ z t. refl)) (omega arith) }

  pub if_else_goes : (at : ℕ) (e : ExprTree) (q : Branches) → EvaluatesThen w e (IfElse q) y v → Runs w (next_in q.numbering.now) (if_else at e (stmt_of q.then.now) (stmt_of q.otherwise.now)) y v
  if_else_goes at e q h = record { went = went_as _ _ _ _ y v h.went (after_value (next_in q.numbering.now) e _ (IfElse q) (λ z t. refl)) (omega arith) }

  pub chosen_goes : (q : Branches) (p : Placed) → IsChosen q w.value p → Enters w (next_in p.numbering.now) (stmt_of p.statement.now) y v → Resumes w (IfElse q ∷ stacked w.rests) y v
  chosen_goes q p is h = record { went = went_as _ _ _ _ y v h.went (same w.value is) (bound w.value is) }
    where
      T : ℕ → StmtTree → Run (Option ℕ)
      T n s = run_in (program_in w) w.turns (opened w.call) n s

      same : (x : ℕ) → IsChosen q x p → settled w (elim x [ zero ↦ T (next_in q.numbering.now + variables_in (stmt_of q.then.now)) (stmt_of q.otherwise.now) | suc n ↦ T (next_in q.numbering.now) (stmt_of q.then.now) ]) ≡ ran w (next_in p.numbering.now) (stmt_of p.statement.now)
      same zero (there, begins) = λ i. ran w (sym begins i) (stmt_of (sym there i))
      same (suc n) (there, begins) = λ i. ran w (sym begins i) (stmt_of (sym there i))

      bound : (x : ℕ) → IsChosen q x p → suc (suc (stmt_weight (weight_of_call w) w.turns (stmt_of p.statement.now) + weigh w)) ≤ weigh_rests w (IfElse q ∷ stacked w.rests)
      bound zero (there, begins) = omega (arith, ap (λ s. stmt_weight (weight_of_call w) w.turns (stmt_of s)) there)
      bound (suc n) (there, begins) = omega (arith, ap (λ s. stmt_weight (weight_of_call w) w.turns (stmt_of s)) there)

  pub while_goes : (at : ℕ) (l : Loop) → l.turns ≡ w.turns → EvaluatesThen w (expr_of l.condition.now) (Turn l) y v → Runs w (next_in l.body.numbering.now) (while at (expr_of l.condition.now) (stmt_of l.body.statement.now)) y v
  while_goes at l is h =
      record {
        went = went_as _ _ _ _ y v h.went
            (ap (λ q. settled w q) (loop_turned C B w.turns w.call.table.items)
            ∙ after_value (next_in l.body.numbering.now) (expr_of l.condition.now) (λ x u. turned C B w.turns x u) (Turn l) (λ x t i. settled w (turned C B (sym is i) x t)))
            (omega (arith, ap (turns_weight (weight_of_call w) w.turns (expr_weight (weight_of_call w) w.turns (expr_of l.condition.now)) (stmt_weight (weight_of_call w) w.turns (stmt_of l.body.statement.now))) is));
      }
    where
      C : Table → Run ℕ
      C = condition_of (program_in w) w.turns (opened w.call) l

      B : Table → Run (Option ℕ)
      B = body_of (program_in w) w.turns (opened w.call) l

  pub return_goes : (at next : ℕ) (e : ExprTree) → EvaluatesThen w e Return y v → Runs w next (return at e) y v
  return_goes at next e h = record { went = went_as _ _ _ _ y v h.went (after_value next e (λ x u. gives (Some x) u) Return (λ z t. refl)) (omega arith) }

  pub eval_goes : (next : ℕ) (e : ExprTree) → EvaluatesThen w e Discard y v → Runs w next (eval e) y v
  eval_goes next e h = record { went = went_as _ _ _ _ y v h.went (after_value next e (λ x u. gives None u) Discard (λ z t. refl)) (omega arith) }

  pub print_goes : (at next : ℕ) (e : ExprTree) → EvaluatesThen w e Print y v → Runs w next (print at e) y v
  print_goes at next e h = record { went = went_as _ _ _ _ y v h.went (after_value next e (λ x u. gave None u (x ∷ [])) Print (λ z t. refl)) (omega arith) }

  -- leaves of an expression, and calls
  pub leaf_goes : (e : ExprTree) (x : ℕ) → V w w.call.table.items e ≡ gives x w.call.table.items → 1 ≤ expr_weight (weight_of_call w) w.turns e → Gives w x y v → Evaluates w e y v
  leaf_goes e x is some h = record { went = went_as _ _ _ _ y v h.went (ap (λ q. onwards q (Next w)) is) (omega arith) }

  pub call_goes : (at : ℕ) (f : List ℕ) (es : ArgsTree) → Computes w f [] es y v → Evaluates w (call at f es) y v
  call_goes at f es h = record { went = went_as _ _ _ _ y v h.went refl (omega arith) }

  pub function_goes : (f known : List ℕ) (g : FunctionTree) → function_of (program_in w) f ≡ Some g → Opens w g known y v → Computes w f known no_args y v
  function_goes f known g found h = record {
    went = went_as _ _ _ _ y v h.went
        (ap (λ l. onwards (Called w f l w.call.table.items) (Next w)) (append-nil known)
        ∙ ap (λ m. onwards (called (world_in (program_in w) w.turns (opened w.call)) m known w.call.table.items) (Next w)) found)
        (omega arith);
  }

  pub nothing_goes : (f known : List ℕ) → function_of (program_in w) f ≡ None → Gives w 0 y v → Computes w f known no_args y v
  nothing_goes f known found h = record {
    went = went_as _ _ _ _ y v h.went
        (ap (λ m. onwards (called (world_in (program_in w) w.turns (opened w.call)) m (known ++ []) w.call.table.items) (Next w)) found)
        (omega arith);
  }

  -- a call of a function whose frame fits
  pub open_goes : (f : FunctionTree) (args : List ℕ) (inside : OpenCall) (kept : OpenCall) (r : Rests) (n : ℕ) (s : Names) →
      w.call.calls ≡ suc inside.calls → nat_lt w.call.left (frame f).bytes ≡ false → inside.left ≡ w.call.left - (frame f).bytes →
      inside.table.items ≡ args ++ replicate (variables_in f.body) 0 → named inside.names ≡ map name_of (body_scope f).variables → n ≡ length f.params →
      kept ≡ w.call → stacked r ≡ Caller kept ∷ stacked w.rests → ((calls : ℕ) → stmt_weight calls w.turns f.body ≤ heaviest calls w.turns w.functions.now) →
      Enters (record w { call = inside; rests = r; spare = s }) n f.body y v → Opens w f args y v
  open_goes f args inside kept r n s some fits left filled names count same is light h = record {
    went = went_as _ _ _ _ y v h.went
        (ap (λ z. with_value w (returned z w.call.table.items)) (call_is (program_in w) w.turns w.call.calls inside.calls w.call.left f args inside.left inside.table.items some fits left filled)
        ∙ enters (run U (body_scope f) inside.table.items f.body)
        ∙ ap (λ k. onwards (run U (body_scope f) inside.table.items f.body) (λ s t. elim s [ None ↦ resume (program_in w) w.turns k (with_table (opened inside) t) 0 | Some x ↦ leave (program_in w) w.turns k x ])) (sym is)
        ∙ ap (λ q. onwards q (Settle (record w { call = inside; rests = r }))) (run_alike U f.body (body_scope f) (scope_with (named inside.names) n) inside.table.items (sym names ∙ sym (names_named (named inside.names)), let e : (body_scope f).next ≡ n = omega (arith, params_next no_scope f.params, count) in e)))
        (omega (arith, ap (call_weight w.functions.now w.turns) some, light (call_weight w.functions.now w.turns inside.calls), ap (rests_weight w.functions.now w.turns inside.calls) is, ap (λ c. rests_weight w.functions.now w.turns c.calls (stacked w.rests)) same));
  }
    where
      U : World
      U = world_in (program_in w) w.turns (opened inside)

      enters : (q : Run (Option ℕ)) → with_value w (returned (ended q) w.call.table.items) ≡ onwards q (λ s t. elim s [ None ↦ resume (program_in w) w.turns (Caller kept ∷ stacked w.rests) (with_table (opened inside) t) 0 | Some x ↦ leave (program_in w) w.turns (Caller kept ∷ stacked w.rests) x ])
      enters (gave None t ns) = ap (λ c. behind_said ns (resume (program_in w) w.turns (stacked w.rests) (opened c) 0)) (sym same)
      enters (gave (Some x) t ns) = ap (λ c. behind_said ns (resume (program_in w) w.turns (stacked w.rests) (opened c) x)) (sym same)
      enters (stopped e ns) = refl

  -- statements, one after the other
  pub next_goes : (s : StmtTree) (next m : ℕ) (q : PlacedAll) (r : Rests) → m ≡ next → behind (scope_with (opened w.call).names next) s ≡ scope_with (opened w.call).names (next_in q.numbering.now) → Follows w.rests q r →
      Runs (record w { rests = r }) m s y v → RunsAll w next (stmt s (stmts_of q.statements.now)) y v
  next_goes s next m q r same scope is h = record {
    went = went_as _ _ _ _ y v (subst (λ k. Runs (record w { rests = r }) k s y v) same h).went
        (onwards_after (R w next w.call.table.items s) (λ x u. then_next x (λ z. Ra (behind (scope_with (opened w.call).names next) s) z) u) (Settle w)
        ∙ onwards_alike (R w next w.call.table.items s) _ _ (λ x u. after_one x u ∙ sym (is.same (program_in w) w.turns (with_table (opened w.call) u) x)))
        (omega (arith, is.fewer w.functions.now w.turns w.call.calls));
  }
    where
      Ra : Scope → Table → Run (Option ℕ)
      Ra sc t = run_all (world_in (program_in w) w.turns (opened w.call)) sc t (stmts_of q.statements.now)

      after_one : (x : Option ℕ) (u : Table) → onwards (then_next x (λ z. Ra (behind (scope_with (opened w.call).names next) s) z) u) (Settle w) ≡ elim x [ None ↦ resume (program_in w) w.turns (RunAll q ∷ stacked w.rests) (with_table (opened w.call) u) 0 | Some z ↦ leave (program_in w) w.turns (RunAll q ∷ stacked w.rests) z ]
      after_one None u = ap (λ sc. onwards (Ra sc u) (Settle w)) scope
      after_one (Some z) u = refl

  pub declaration_goes : (at next : ℕ) (x : List ℕ) (ty : ValueType) (e : ExprTree) (nm : Named) (q : PlacedAll) (r : Rests) → nm.name.now ≡ x → nm.number ≡ next → next_in q.numbering.now ≡ next + 1 →
      stacked r ≡ Declare nm ∷ (RunAll q ∷ (Forget ∷ stacked w.rests)) → EvaluatesThen (record w { rests = r }) e (Initialize nm.number) y v → RunsAll w next (stmt (var at x ty e) (stmts_of q.statements.now)) y v
  declaration_goes at next x ty e nm q r is_x is_number more is h = record {
    went = went_as _ _ _ _ y v (subst (λ k. EvaluatesThen (record w { rests = r }) e (Initialize k) y v) is_number h).went
        (onwards_after (R w next w.call.table.items (var at x ty e)) (λ s u. then_next s (λ z. Ra (behind (scope_with (opened w.call).names next) (var at x ty e)) z) u) (Settle w)
        ∙ onwards_after (value W (scope_with (opened w.call).names next) w.call.table.items e) (λ z u. gives None (slice_set u next z)) _
        ∙ ap (λ m. onwards m (λ z u. onwards (Ra (behind (scope_with (opened w.call).names next) (var at x ty e)) (slice_set u next z)) (Settle w))) (value_alike W e (scope_with (opened w.call).names next) (scope_with (opened w.call).names 0) w.call.table.items refl)
        ∙ onwards_alike (V w w.call.table.items e) _ _ (λ z u.
        ap (λ m. onwards m (Settle w)) (run_all_alike W (stmts_of q.statements.now) (behind (scope_with (opened w.call).names next) (var at x ty e)) (scope_with ((nm.name.now, nm.number) ∷ (opened w.call).names) (next_in q.numbering.now)) (slice_set u next z) ((λ i. (sym is_x i, sym is_number i) ∷ map name_of (map variable_named (opened w.call).names)), sym more))
        ∙ onwards_alike (run_all_in (program_in w) w.turns (record (with_table (opened w.call) (slice_set u next z)) { names = (nm.name.now, nm.number) ∷ (opened w.call).names }) (next_in q.numbering.now) (stmts_of q.statements.now)) _ _ (λ s t. forgets s t)
        ∙ ap (λ k. resume (program_in w) w.turns k (with_table (opened w.call) (slice_set u next z)) 0) (sym is)))
        (omega (arith, ap (λ k. weigh_rests w k) is));
  }
    where
      W : World
      W = world_in (program_in w) w.turns (opened w.call)

      Ra : Scope → Table → Run (Option ℕ)
      Ra sc t = run_all W sc t (stmts_of q.statements.now)

      forgets : (s : Option ℕ) (t : Table) → Settle w s t ≡ elim s [ None ↦ resume (program_in w) w.turns (Forget ∷ stacked w.rests) (with_table (record (opened w.call) { names = (nm.name.now, nm.number) ∷ (opened w.call).names }) t) 0 | Some z ↦ leave (program_in w) w.turns (Forget ∷ stacked w.rests) z ]
      forgets None t = refl
      forgets (Some z) t = refl

  -- a loop's next turn
  pub again_goes : (l : Loop) → EvaluatesThen w (expr_of l.condition.now) (Turn l) y v → Resumes w (Again l ∷ stacked w.rests) y v
  again_goes l h = record {
    went = went_as _ _ _ _ y v h.went
        (ap (λ q. settled w q) (loop_turned (condition_of (program_in w) w.turns (opened w.call) l) (body_of (program_in w) w.turns (opened w.call) l) l.turns w.call.table.items)
        ∙ after_value (next_in l.body.numbering.now) (expr_of l.condition.now) (λ x u. turned (condition_of (program_in w) w.turns (opened w.call) l) (body_of (program_in w) w.turns (opened w.call) l) l.turns x u) (Turn l) (λ x t. refl))
        (omega arith);
  }

  pub turn_goes : (l : Loop) (r : Rests) (m n : ℕ) → w.value ≡ suc m → l.turns ≡ suc n → stacked r ≡ Again (record l { turns = n }) ∷ stacked w.rests →
      Enters (record w { rests = r }) (next_in l.body.numbering.now) (stmt_of l.body.statement.now) y v → Resumes w (Turn l ∷ stacked w.rests) y v
  turn_goes l r m n some turns pushed h = record {
    went = went_as _ _ _ _ y v h.went
        ((λ i. onwards (turned C B (turns i) (some i) w.call.table.items) (Settle w))
        ∙ onwards_after (B w.call.table.items) (λ x u. then_next x (λ z. loop C B n z) u) (Settle w)
        ∙ onwards_alike (B w.call.table.items) _ _ after_turn)
        (omega (arith, ap (turns_weight (weight_of_call w) w.turns (expr_weight (weight_of_call w) w.turns (expr_of l.condition.now)) (stmt_weight (weight_of_call w) w.turns (stmt_of l.body.statement.now))) turns, ap (λ k. weigh_rests w k) pushed));
  }
    where
      C : Table → Run ℕ
      C = condition_of (program_in w) w.turns (opened w.call) l

      B : Table → Run (Option ℕ)
      B = body_of (program_in w) w.turns (opened w.call) l

      after_turn : (x : Option ℕ) (u : Table) → onwards (then_next x (λ z. loop C B n z) u) (Settle w) ≡ elim x [ None ↦ resume (program_in w) w.turns (stacked r) (with_table (opened w.call) u) 0 | Some z ↦ leave (program_in w) w.turns (stacked r) z ]
      after_turn None u = ap (λ k. resume (program_in w) w.turns k (with_table (opened w.call) u) 0) (sym pushed)
      after_turn (Some z) u = ap (λ k. leave (program_in w) w.turns k z) (sym pushed)
