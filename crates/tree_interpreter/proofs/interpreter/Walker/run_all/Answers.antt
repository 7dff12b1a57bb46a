use Rattle.tree_interpreter.proofs.Steps.{led_goes}
use Rattle.tree_interpreter.proofs.interpreter.Walker.run_all.Goals as goal

pub returns : goal.returns
returns c = led_goes c.args.self.now _ _ c.args.placed c.leading-left.result c.leading-left.new.self c.leading-left.ensures c.run_next.ensures
