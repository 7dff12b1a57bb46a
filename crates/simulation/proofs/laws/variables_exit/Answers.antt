use Rattle.simulation.proofs.Variables.{variables_exit, variables_far}
use Rattle.simulation.proofs.laws.variables_exit.Goals as goal

pub returns-clause-exits : goal.returns-clause-exits
returns-clause-exits c = variables_exit

pub returns-clause-far : goal.returns-clause-far
returns-clause-far c = variables_far
