use Rattle.tree_interpreter.proofs.Printing.{says_goes}
use Rattle.tree_interpreter.proofs.interpreter.Walker.print.Goals as goal

pub returns : goal.returns
returns c = says_goes c.args.self.now c.args.output.now.items c.say.new.output.items (rw c.in_ok-say.was at c.say.ensures)
