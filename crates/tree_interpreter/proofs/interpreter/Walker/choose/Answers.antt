use Rattle.tree_interpreter.proofs.Steps.{chosen_goes}
use Rattle.tree_interpreter.proofs.interpreter.Walker.choose.Goals as goal

pub returns : goal.returns
returns c = chosen_goes _ _ _ _ _ c.chosen-placed.ensures c.enter.ensures
