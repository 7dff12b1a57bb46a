use Rattle.ll1_sets.specs.Laws.LeftRecursion.{not_left_recursive}
use Rattle.ll1_sets.proofs.laws.ll1_has_no_left_recursion.Goals as goal

pub returns : goal.returns
returns c = not_left_recursive
