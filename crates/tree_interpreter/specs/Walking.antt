-- Where the walk of a program stands: what it comes to, and that each step comes to the same with less left to do.
use Rattle.std.specs.Prelude.{◌≡◌, ℕ, ℤ, suc, ◌+◌, ◌<◌, ◌≤◌, List, ◌∷◌, map, Option, Some, None, Result, Ok, Err}
use Rattle.source_meaning.specs.Ast.{Expr as ExprTree, Args as ArgsTree, Stmt as StmtTree, Stmts as StmtsTree, Function as FunctionTree, Program}
use Rattle.source_meaning.specs.Meaning.{Deep as AtDeep, More as AtMore, Run, gives, End, Stopped, ends_as, returned, call_in}
use Rattle.tree_interpreter.specs.Trees.{function_of, stmts_of}
use Rattle.tree_interpreter.specs.Numbering.{next_in}
use Rattle.tree_interpreter.specs.Running.{AreAdded}
use Rattle.tree_interpreter.specs.Resuming.{Opened, opened, with_table, stacked, onwards, behind_said, resume, leave, value_in, call_with, run_in, run_all_in}
use Rattle.tree_interpreter.specs.Weights.{expr_weight, args_weight, stmt_weight, stmts_weight, call_weight, rests_weight}
use Rattle.tree_interpreter.specs.declared.callees.Callee.{Callee}
use Rattle.tree_interpreter.specs.declared.rests.PlacedAll.{PlacedAll}
use Rattle.tree_interpreter.specs.declared.rests.OpenCall.{OpenCall}
use Rattle.tree_interpreter.specs.declared.rests.Rests.{Rests}
use Rattle.tree_interpreter.specs.declared.rests.Rest.{Rest}
use Rattle.tree_interpreter.specs.declared.rests.Rest.TheVariants.{RunAll, Print}
use Rattle.tree_interpreter.specs.declared.interpreter.Stop.{Stop}
use Rattle.tree_interpreter.specs.declared.interpreter.Stop.TheVariants.{Deep, More, NoMemory}
use Rattle.tree_interpreter.specs.declared.interpreter.Walker.{Walker}

abbrev pub program_in : Walker → Program
program_in w = map (λ f. function_of f.function.now) w.functions.now

-- what the steps that are left come to, with a value
abbrev pub given : Walker → ℕ → End
given w x = resume (program_in w) w.turns (stacked w.rests) (opened w.call) x

abbrev pub meant : Walker → End
meant w = given w w.value

-- what they come to behind a run that gives a value, and behind one of statements
abbrev pub with_value : Walker → Run ℕ → End
with_value w r = onwards r (λ y t. resume (program_in w) w.turns (stacked w.rests) (with_table (opened w.call) t) y)

abbrev pub settled : Walker → Run (Option ℕ) → End
settled w r = onwards r (λ s t. elim s [ None ↦ resume (program_in w) w.turns (stacked w.rests) (with_table (opened w.call) t) 0 | Some v ↦ leave (program_in w) w.turns (stacked w.rests) v ])

-- an expression, the arguments of a call that are left behind others, a call, a statement, statements
abbrev pub evaluated : Walker → ExprTree → End
evaluated w e = with_value w (value_in (program_in w) w.turns (opened w.call) e)

abbrev pub evaluated_then : Walker → ExprTree → Rest → End
evaluated_then w e rest = onwards (value_in (program_in w) w.turns (opened w.call) e) (λ y t. resume (program_in w) w.turns (rest ∷ stacked w.rests) (with_table (opened w.call) t) y)

abbrev pub argued : Walker → List ℕ → List ℕ → ArgsTree → End
argued w f known es = with_value w (call_with (program_in w) w.turns (opened w.call) f known es)

abbrev pub called_with : Walker → FunctionTree → List ℕ → End
called_with w f args = with_value w (returned (call_in (program_in w) w.turns w.call.calls w.call.left f args) w.call.table.items)

abbrev pub ran : Walker → ℕ → StmtTree → End
ran w next s = settled w (run_in (program_in w) w.turns (opened w.call) next s)

abbrev pub ran_all : Walker → ℕ → StmtsTree → End
ran_all w next ss = settled w (run_all_in (program_in w) w.turns (opened w.call) next ss)

-- steps before those that are left
abbrev pub resumed : Walker → List Rest → End
resumed w k = resume (program_in w) w.turns k (opened w.call) w.value

abbrev pub departed : Walker → End
departed w = leave (program_in w) w.turns (stacked w.rests) w.value

-- how much is left
abbrev pub weigh_rests : Walker → List Rest → ℕ
weigh_rests w k = rests_weight w.functions.now w.turns w.call.calls k

abbrev pub weigh : Walker → ℕ
weigh w = weigh_rests w (stacked w.rests)

abbrev pub weight_of_call : Walker → ℕ
weight_of_call w = call_weight w.functions.now w.turns w.call.calls

-- What was meant is what is meant, and less is left than so much; or it stops. Nothing is printed. Out of memory says
-- nothing.
abbrev pub Went : End → ℕ → Result (Unit {0}) Stop → Walker → Type 0
Went o n (Ok _) w = (o ≡ meant w) × (weigh w < n)
Went o n (Err Deep) w = o ≡ ends_as (Stopped AtDeep)
Went o n (Err More) w = o ≡ ends_as (Stopped AtMore)
Went o n (Err NoMemory) w = Unit {0}

-- The answers of the interpreter's functions: what each of them comes to, and how much it may leave to do.
pub record Gives (w : Walker) (x : ℕ) (y : Result (Unit {0}) Stop) (v : Walker) : Type 0 where
  pub went : Went (given w x) (suc (weigh w)) y v

pub record EvaluatesThen (w : Walker) (e : ExprTree) (rest : Rest) (y : Result (Unit {0}) Stop) (v : Walker) : Type 0 where
  pub went : Went (evaluated_then w e rest) (suc (suc (expr_weight (weight_of_call w) w.turns e + weigh_rests w (rest ∷ stacked w.rests)))) y v

pub record Evaluates (w : Walker) (e : ExprTree) (y : Result (Unit {0}) Stop) (v : Walker) : Type 0 where
  pub went : Went (evaluated w e) (expr_weight (weight_of_call w) w.turns e + weigh w) y v

pub record Computes (w : Walker) (f known : List ℕ) (es : ArgsTree) (y : Result (Unit {0}) Stop) (v : Walker) : Type 0 where
  pub went : Went (argued w f known es) (args_weight (weight_of_call w) w.turns es + weigh w) y v

pub record Opens (w : Walker) (f : FunctionTree) (args : List ℕ) (y : Result (Unit {0}) Stop) (v : Walker) : Type 0 where
  pub went : Went (called_with w f args) (suc (weight_of_call w + weigh w)) y v

pub record Runs (w : Walker) (next : ℕ) (s : StmtTree) (y : Result (Unit {0}) Stop) (v : Walker) : Type 0 where
  pub went : Went (ran w next s) (stmt_weight (weight_of_call w) w.turns s + weigh w) y v

pub record RunsAll (w : Walker) (next : ℕ) (ss : StmtsTree) (y : Result (Unit {0}) Stop) (v : Walker) : Type 0 where
  pub went : Went (ran_all w next ss) (stmts_weight (weight_of_call w) w.turns ss + weigh w) y v

pub record Resumes (w : Walker) (k : List Rest) (y : Result (Unit {0}) Stop) (v : Walker) : Type 0 where
  pub went : Went (resumed w k) (weigh_rests w k) y v

pub record Departs (w : Walker) (y : Result (Unit {0}) Stop) (v : Walker) : Type 0 where
  pub went : Went (departed w) (suc (weigh w)) y v

pub record GoesBack (w : Walker) (o : Opened) (y : Result (Unit {0}) Stop) (v : Walker) : Type 0 where
  pub went : Went (resume (program_in w) w.turns (stacked w.rests) o w.value) (suc (rests_weight w.functions.now w.turns o.calls (stacked w.rests))) y v

-- Statements come first in these steps: they come to the same as with a step for the statements, also where there is none for no statement.
pub record Follows (r : Rests) (q : PlacedAll) (s : Rests) : Type 0 where
  pub same : (p : Program) (turns : ℕ) (o : Opened) (x : Option ℕ)
      → ◌≡◌ {A = End} (elim x [ None ↦ resume p turns (stacked s) o 0 | Some v ↦ leave p turns (stacked s) v ])
      (elim x [ None ↦ resume p turns (RunAll q ∷ stacked r) o 0 | Some v ↦ leave p turns (RunAll q ∷ stacked r) v ])
  pub fewer : (fs : List Callee) (turns calls : ℕ) → rests_weight fs turns calls (stacked s) ≤ rests_weight fs turns calls (RunAll q ∷ stacked r)

-- What an open call does at once. The expression has this value, and changes nothing.
abbrev pub HasValue : OpenCall → ExprTree → ℕ → Type 0
HasValue c e x = (p : Program) (turns : ℕ) → value_in p turns (opened c) e ≡ gives x c.table.items

-- the expression has this value, and leaves the variables as they are then
pub record Leaves (c : OpenCall) (e : ExprTree) (x : ℕ) (d : OpenCall) : Type 0 where
  pub has : (p : Program) (turns : ℕ) → value_in p turns (opened c) e ≡ gives x d.table.items
  pub kept : opened d ≡ with_table (opened c) d.table.items

-- statements come to the same as those that are left of them, with the variables as they are then
pub record Leads (c : OpenCall) (q : PlacedAll) (d : OpenCall) (r : PlacedAll) : Type 0 where
  pub does : (p : Program) (turns : ℕ)
      → run_all_in p turns (opened c) (next_in q.numbering.now) (stmts_of q.statements.now) ≡ run_all_in p turns (opened d) (next_in r.numbering.now) (stmts_of r.statements.now)
  pub kept : opened d ≡ with_table (opened c) d.table.items
  pub fewer : (calls turns : ℕ) → stmts_weight calls turns (stmts_of r.statements.now) ≤ stmts_weight calls turns (stmts_of q.statements.now)

-- a call comes to the same with more arguments that are known and fewer that are left
pub record Puts (c : OpenCall) (known : List ℕ) (es : ArgsTree) (more : List ℕ) (rest : ArgsTree) : Type 0 where
  pub does : (p : Program) (turns : ℕ) (f : List ℕ) → call_with p turns (opened c) f known es ≡ call_with p turns (opened c) f more rest
  pub fewer : (calls turns : ℕ) → args_weight calls turns rest ≤ args_weight calls turns es

-- An expression, statements and a statement of which some may be left for steps of their own.
pub record Starts (w : Walker) (e : ExprTree) (y : Result (Unit {0}) Stop) (v : Walker) : Type 0 where
  pub went : Went (evaluated w e) (suc (suc (expr_weight (weight_of_call w) w.turns e + weigh w))) y v

pub record Begins (w : Walker) (next : ℕ) (ss : StmtsTree) (y : Result (Unit {0}) Stop) (v : Walker) : Type 0 where
  pub went : Went (ran_all w next ss) (suc (suc (stmts_weight (weight_of_call w) w.turns ss + weigh w))) y v

pub record Enters (w : Walker) (next : ℕ) (s : StmtTree) (y : Result (Unit {0}) Stop) (v : Walker) : Type 0 where
  pub went : Went (ran w next s) (suc (suc (stmt_weight (weight_of_call w) w.turns s + weigh w))) y v

-- a step that prints nothing
abbrev pub IsSilent : Rest → Type 0
IsSilent Print = ⊥
IsSilent r = Unit {0}

-- A step with what it may print. Where it goes on, these words were put behind the numbers of before, less is left,
-- and what was meant is what is meant behind these words. Where it doesn't, nothing was printed.
pub record Printed (o : End) (n : ℕ) (old : List ℤ) (w : Walker) (new : List ℤ) : Type 0 where
  pub said : List ℕ
  pub added : AreAdded old said new
  pub same : o ≡ behind_said said (meant w)
  pub fewer : weigh w < n

abbrev pub WentOn : End → ℕ → List ℤ → Result (Unit {0}) Stop → Walker → List ℤ → Type 0
WentOn o n old (Ok _) w new = Printed o n old w new
WentOn o n old (Err Deep) w new = (o ≡ ends_as (Stopped AtDeep)) × (new ≡ old)
WentOn o n old (Err More) w new = (o ≡ ends_as (Stopped AtMore)) × (new ≡ old)
WentOn o n old (Err NoMemory) w new = new ≡ old

pub record Steps (w : Walker) (k : List Rest) (old : List ℤ) (y : Result (Unit {0}) Stop) (v : Walker) (new : List ℤ) : Type 0 where
  pub went : WentOn (resumed w k) (weigh_rests w k) old y v new

pub record Says (w : Walker) (old : List ℤ) (y : Result (Unit {0}) Stop) (v : Walker) (new : List ℤ) : Type 0 where
  pub went : WentOn (resumed w (Print ∷ stacked w.rests)) (weigh_rests w (Print ∷ stacked w.rests)) old y v new
