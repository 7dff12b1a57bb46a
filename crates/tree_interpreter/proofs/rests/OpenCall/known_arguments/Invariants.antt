use Rattle.tree_interpreter.specs.Trees.{args_of}
use Rattle.tree_interpreter.specs.Walking.{Puts}
use Rattle.tree_interpreter.proofs.rests.OpenCall.known_arguments.Given as goal

abbrev pub invariant-loop-left : goal.invariant-loop-left
invariant-loop-left l = Puts l.self l.fn.values.items (args_of l.fn.args) l.values.items (args_of l.left)
