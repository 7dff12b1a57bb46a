use Rattle.tree_interpreter.specs.Trees.{expr_of}
use Rattle.tree_interpreter.proofs.Steps.{discarded_goes}
use Rattle.tree_interpreter.proofs.interpreter.Walker.discard.Goals as goal

pub returns-in-Some : goal.returns-in-Some
returns-in-Some c = discarded_goes c.args.self.now _ _ (expr_of c.args.e.now) c.in-Some.field-0 c.assigned.new.self (rw c.in-Some.is at c.assigned.ensures) c.give.ensures
