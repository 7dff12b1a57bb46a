use Rattle.tree_interpreter.specs.Trees.{expr_of}
use Rattle.tree_interpreter.proofs.Steps.{right_goes}
use Rattle.tree_interpreter.proofs.interpreter.Walker.operate.Goals as goal

pub returns-in-Some : goal.returns-in-Some
returns-in-Some c = right_goes c.args.self.now _ _ (expr_of c.args.left.now) c.args.op c.args.right c.in-Some.value (rw c.in-Some.is at c.leaf.ensures) c.apply.ensures
