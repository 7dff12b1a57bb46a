use Rattle.std.proofs.Common.{[], map, subst}
use Rattle.source_meaning.specs.Meaning.{call_in, main_in}
use Rattle.tree_interpreter.specs.Trees.{function_of}
use Rattle.tree_interpreter.specs.Running.{WalksTo}
use Rattle.tree_interpreter.proofs.interpreter.walk_from_main.Goals as goal

pub returns-in-Some : goal.returns-in-Some
returns-in-Some c =
    subst (λ o. WalksTo (main_in (map (λ f. function_of f.function.now) c.args.callees.now) c.args.stack c.args.steps o) c.args.output.now.items c.call_first.new.output.items c.outcome_of.result)
    (rw c.in-Some.is at c.function.ensures.first)
    (c.outcome_of.ensures
    (call_in (map (λ f. function_of f.function.now) c.args.callees.now) c.args.steps c.args.steps c.args.stack (function_of c.in-Some.main.now.function.now) [])
    c.args.output.now.items c.call_first.new.output.items c.call_first.ensures)
