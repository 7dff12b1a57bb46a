use Rattle.glue_summary.proofs.Behinds.{stack_of_along}
use Rattle.glue_summary.proofs.laws.open_brackets_are_the_stack.Goals as goal

pub returns : goal.returns
returns c = stack_of_along
