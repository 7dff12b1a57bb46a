use Rattle.tree_interpreter.specs.Trees.{expr_of}
use Rattle.tree_interpreter.proofs.Steps.{value_pushed}
use Rattle.tree_interpreter.proofs.interpreter.Walker.evaluate_then.Goals as goal

pub returns-in-Some : goal.returns-in-Some
returns-in-Some c = value_pushed c.args.self.now _ _ (expr_of c.args.e.now) c.args.rest c.in-Some.value _ c.in_ok-push.ensures (rw c.in-Some.is at c.leaf.ensures) c.give.ensures
