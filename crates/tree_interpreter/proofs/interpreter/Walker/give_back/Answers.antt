use Rattle.tree_interpreter.specs.Trees.{expr_of}
use Rattle.tree_interpreter.proofs.Steps.{at_once, departs_goes}
use Rattle.tree_interpreter.proofs.interpreter.Walker.give_back.Goals as goal

pub returns-in-Some : goal.returns-in-Some
returns-in-Some c = at_once c.args.self.now _ _ (expr_of c.args.e.now) _ c.in-Some.value (rw c.in-Some.is at c.simple.ensures) (departs_goes _ _ _ c.leave.ensures)
