use Rattle.tree_interpreter.proofs.Steps.{block_enters}
use Rattle.tree_interpreter.proofs.interpreter.Walker.enter.Goals as goal

pub returns-in-Block : goal.returns-in-Block
returns-in-Block c = rw c.in-Block.is (block_enters _ _ _ c.in-Block.at _ _ c.begin.ensures)
