use Rattle.std.proofs.Common.{◌≡◌, map, ap, subst, ◌∙◌}
use Rattle.source_meaning.specs.Meaning.{meaning}
use Rattle.tree_interpreter.specs.Trees.{function_of}
use Rattle.tree_interpreter.specs.Running.{WalksTo}
use Rattle.tree_interpreter.proofs.Called.{functions_of_callees}
use Rattle.tree_interpreter.proofs.interpreter.walk.Goals as goal

pub returns : goal.returns
returns c =
    subst (λ p. WalksTo (meaning p c.args.stack c.args.steps) c.args.output.now.items c.walk_from_main.new.output.items c.walk_from_main.result)
    (ap (map (λ f. function_of f.function.now)) c.deref-2.ensures.value ∙ functions_of_callees _ ∙ ap (map function_of) (c.in_ok-callees.ensures ∙ c.deref.ensures.value))
    c.walk_from_main.ensures
