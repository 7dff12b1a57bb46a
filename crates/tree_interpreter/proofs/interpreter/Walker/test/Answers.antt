use Rattle.tree_interpreter.specs.Trees.{expr_of}
use Rattle.tree_interpreter.proofs.Steps.{at_once}
use Rattle.tree_interpreter.proofs.interpreter.Walker.test.Goals as goal

pub returns-in-Some : goal.returns-in-Some
returns-in-Some c = at_once c.args.self.now _ _ (expr_of c.args.looped.condition.now) _ c.in-Some.value (rw c.in-Some.is at c.simple.ensures) c.turn.ensures
