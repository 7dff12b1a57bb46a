-- What the steps that are left to do make of the value that was computed last, in the words of the meaning.
use Rattle.std.specs.Prelude.{◌≡◌, ℕ, zero, suc, ◌+◌, List, [], ◌∷◌, ◌++◌, Option, Some, None, reverse, slice_set}
use Rattle.source_meaning.specs.Ast.{Expr as ExprTree, Args as ArgsTree, Stmt as StmtTree, Stmts as StmtsTree, Program}
use Rattle.source_meaning.specs.Scope.{function_of, variables_in}
use Rattle.source_meaning.specs.Meaning.{Run, gave, stopped, gives, stops, ◌>>=◌, Table, World, End, Ended, Stopped, ends_as, More, value, values, called, then_next, loop, run, run_all, call_in}
use Rattle.source_meaning.specs.Operators.{unary_value, binary_value}
use Rattle.tree_interpreter.specs.Trees.{expr_of, args_of, stmt_of, stmts_of}
use Rattle.tree_interpreter.specs.Numbering.{next_in}
use Rattle.tree_interpreter.specs.Running.{named, outer, scope_with, stored_numbered}
use Rattle.tree_interpreter.specs.declared.rests.OpenCall.{OpenCall}
use Rattle.tree_interpreter.specs.declared.rests.Placed.{Placed}
use Rattle.tree_interpreter.specs.declared.rests.Branches.{Branches}
use Rattle.tree_interpreter.specs.declared.rests.Loop.{Loop}
use Rattle.tree_interpreter.specs.declared.rests.Rests.{Rests}
use Rattle.tree_interpreter.specs.declared.rests.Rest.{Rest}
use Rattle.tree_interpreter.specs.declared.rests.Rest.TheVariants.{Evaluate, Unary, Right, Binary, And, Or, Store, Argument, Initialize, Discard, RunAll, Declare, Forget, If, IfElse, Turn, Again, Run as RunOne, Return, Print, Caller}

-- the steps that are left, the next one first
abbrev pub stacked : Rests → List Rest
stacked r = reverse r.all.items

-- an open call: how many more may be opened in it, the bytes of the stack that are left, the names in scope
-- with their numbers, and the values of its variables
pub record Opened : Type 0 where
  pub calls : ℕ
  pub left : ℕ
  pub names : List (List ℕ × ℕ)
  pub table : Table

abbrev pub opened : OpenCall → Opened
opened c = record { calls = c.calls; left = c.left; names = named c.names; table = c.table.items }

abbrev pub with_table : Opened → Table → Opened
with_table o t = record o { table = t }

-- an end before which some numbers were printed
abbrev pub behind_said : List ℕ → End → End
behind_said ns e = record { outcome = e.outcome; printed = ns ++ e.printed }

-- goes on with what a run gives
abbrev pub onwards : {A : Type 0} → Run A → (A → Table → End) → End
onwards (gave x t ns) next = behind_said ns (next x t)
onwards (stopped s ns) next = record { outcome = Stopped s; printed = ns }

-- the statement of an if or its else, where the condition has a value
abbrev pub IsChosen : Branches → ℕ → Placed → Type 0
IsChosen q zero p = (p.statement.now ≡ q.otherwise.now) × (next_in p.numbering.now ≡ next_in q.numbering.now + variables_in (stmt_of q.then.now))
IsChosen q (suc n) p = (p.statement.now ≡ q.then.now) × (next_in p.numbering.now ≡ next_in q.numbering.now)

-- a loop whose condition has a value: what is left of its turns
abbrev pub turned : (Table → Run ℕ) → (Table → Run (Option ℕ)) → ℕ → ℕ → Table → Run (Option ℕ)
turned condition body zero x u = elim x [ zero ↦ gives None u | suc k ↦ stops More ]
turned condition body (suc n) x u = elim x [ zero ↦ gives None u | suc k ↦ body u >>= λ r v. then_next r (λ z. loop condition body n z) v ]

module _ (p : Program) (turns : ℕ) where
  abbrev pub world_in : Opened → World
  world_in o = record { program = p; turns = turns; calls = call_in p turns o.calls o.left }

  -- what expressions, statements and calls do in an open call; a statement stands behind this many declared variables
  abbrev pub value_in : Opened → ExprTree → Run ℕ
  value_in o e = value (world_in o) (scope_with o.names 0) o.table e

  abbrev pub call_with : Opened → List ℕ → List ℕ → ArgsTree → Run ℕ
  call_with o f known es = values (world_in o) (scope_with o.names 0) o.table es >>= λ vs t. called (world_in o) (function_of p f) (known ++ vs) t

  abbrev pub run_in : Opened → ℕ → StmtTree → Run (Option ℕ)
  run_in o next s = run (world_in o) (scope_with o.names next) o.table s

  abbrev pub run_all_in : Opened → ℕ → StmtsTree → Run (Option ℕ)
  run_all_in o next ss = run_all (world_in o) (scope_with o.names next) o.table ss

  abbrev pub condition_of : Opened → Loop → Table → Run ℕ
  condition_of o l t = value (world_in o) (scope_with o.names (next_in l.body.numbering.now)) t (expr_of l.condition.now)

  abbrev pub body_of : Opened → Loop → Table → Run (Option ℕ)
  body_of o l t = run (world_in o) (scope_with o.names (next_in l.body.numbering.now)) t (stmt_of l.body.statement.now)

  abbrev mutual
    -- Goes on with a value. Behind a statement that didn't return it is 0. What was printed before is no part of the end.
    pub resume : List Rest → Opened → ℕ → End
    resume [] o x = ends_as (Ended x)
    resume (Evaluate e ∷ k) o x = onwards (value_in o (expr_of e.now)) (λ y t. resume k (with_table o t) y)
    resume (Unary op ∷ k) o x = resume k o (unary_value op x)
    resume (Right op b ∷ k) o x = onwards (value_in o (expr_of b.now)) (λ y t. resume k (with_table o t) (binary_value op x y))
    resume (Binary op y ∷ k) o x = resume k o (binary_value op y x)
    resume (And b ∷ k) o x = onwards {A = ℕ} (elim x [ zero ↦ gives zero o.table | suc n ↦ value_in o (expr_of b.now) ]) (λ y t. resume k (with_table o t) y)
    resume (Or b ∷ k) o x = onwards {A = ℕ} (elim x [ zero ↦ value_in o (expr_of b.now) | suc n ↦ gives (suc n) o.table ]) (λ y t. resume k (with_table o t) y)
    resume (Store n ∷ k) o x = resume k (with_table o (stored_numbered n x o.table)) x
    resume (Argument f known es ∷ k) o x = onwards (call_with o f.now.items (known.items ++ x ∷ []) (args_of es.now)) (λ y t. resume k (with_table o t) y)
    resume (Initialize n ∷ k) o x = resume k (with_table o (slice_set o.table n x)) 0
    resume (Discard ∷ k) o x = resume k o 0
    resume (RunAll q ∷ k) o x = onwards (run_all_in o (next_in q.numbering.now) (stmts_of q.statements.now)) (λ r t. elim r [ None ↦ resume k (with_table o t) 0 | Some v ↦ leave k v ])
    resume (Declare v ∷ k) o x = resume k (record o { names = (v.name.now, v.number) ∷ o.names }) x
    resume (Forget ∷ k) o x = resume k (record o { names = outer o.names }) x
    resume (If q ∷ k) o x = onwards {A = Option ℕ} (elim x [ zero ↦ gives None o.table | suc n ↦ run_in o (next_in q.numbering.now) (stmt_of q.statement.now) ])
        (λ r t. elim r [ None ↦ resume k (with_table o t) 0 | Some v ↦ leave k v ])
    resume (IfElse q ∷ k) o x = onwards {A = Option ℕ}
        (elim x [
          | zero ↦ run_in o (next_in q.numbering.now + variables_in (stmt_of q.then.now)) (stmt_of q.otherwise.now)
          | suc n ↦ run_in o (next_in q.numbering.now) (stmt_of q.then.now)
        ]) (λ r t. elim r [ None ↦ resume k (with_table o t) 0 | Some v ↦ leave k v ])
    resume (Turn l ∷ k) o x = onwards (turned (condition_of o l) (body_of o l) l.turns x o.table) (λ r t. elim r [ None ↦ resume k (with_table o t) 0 | Some v ↦ leave k v ])
    resume (Again l ∷ k) o x = onwards (loop (condition_of o l) (body_of o l) l.turns o.table) (λ r t. elim r [ None ↦ resume k (with_table o t) 0 | Some v ↦ leave k v ])
    resume (RunOne q ∷ k) o x = onwards (run_in o (next_in q.numbering.now) (stmt_of q.statement.now)) (λ r t. elim r [ None ↦ resume k (with_table o t) 0 | Some v ↦ leave k v ])
    resume (Return ∷ k) o x = leave k x
    resume (Print ∷ k) o x = behind_said (x ∷ []) (resume k o 0)
    resume (Caller c ∷ k) o x = resume k (opened c) x

    -- returns a value from the open call
    pub leave : List Rest → ℕ → End
    leave [] x = ends_as (Ended x)
    leave (Caller c ∷ k) x = resume k (opened c) x
    leave (r ∷ k) x = leave k x
