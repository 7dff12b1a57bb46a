use Rattle.tree_interpreter.proofs.Steps.{again_goes}
use Rattle.tree_interpreter.proofs.interpreter.Walker.again.Goals as goal

pub returns : goal.returns
returns c = again_goes _ _ _ _ c.test.ensures
