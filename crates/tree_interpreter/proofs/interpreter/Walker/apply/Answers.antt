use Rattle.tree_interpreter.specs.Trees.{expr_of}
use Rattle.tree_interpreter.proofs.Steps.{applied_goes}
use Rattle.tree_interpreter.proofs.interpreter.Walker.apply.Goals as goal

pub returns-in-Some : goal.returns-in-Some
returns-in-Some c = applied_goes c.args.self.now _ _ (expr_of c.args.right.now) c.args.op c.args.left c.in-Some.value _ (rw c.in-Some.is at c.leaf.ensures) c.apply_binary.ensures c.give.ensures
