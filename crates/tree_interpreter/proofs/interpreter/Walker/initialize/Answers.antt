use Rattle.tree_interpreter.specs.Trees.{expr_of}
use Rattle.tree_interpreter.proofs.Steps.{value_pushed}
use Rattle.tree_interpreter.proofs.interpreter.Walker.initialize.Goals as goal

pub returns-in_ok-push-in-Some : goal.returns-in_ok-push-in-Some
returns-in_ok-push-in-Some c = value_pushed c.args.self.now _ _ (expr_of c.args.e.now) _ c.in-Some.value _ c.in_ok-push-in-Some.ensures (rw c.in-Some.is at c.simple.ensures) c.give.ensures
