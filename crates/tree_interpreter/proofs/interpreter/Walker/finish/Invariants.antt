use Rattle.tree_interpreter.specs.Walking.{meant, weigh}
use Rattle.tree_interpreter.proofs.Printing.{SoFar}
use Rattle.tree_interpreter.proofs.interpreter.Walker.finish.Given as goal

abbrev pub invariant-loop-rest : goal.invariant-loop-rest
invariant-loop-rest l = SoFar (meant l.fn.self) l.fn.output.items (meant l.self) l.output.items

abbrev pub decreases-loop-rest : goal.decreases-loop-rest
decreases-loop-rest l = weigh l.self
