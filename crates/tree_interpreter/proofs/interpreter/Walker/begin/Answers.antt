use Rattle.tree_interpreter.proofs.Steps.{begin_goes}
use Rattle.tree_interpreter.proofs.interpreter.Walker.begin.Goals as goal

pub returns : goal.returns
returns c = begin_goes c.args.self.now _ _ c.args.placed c.leading-left.result c.leading-left.new.self _ c.leading-left.ensures c.in_ok-follow.ensures c.give.ensures
