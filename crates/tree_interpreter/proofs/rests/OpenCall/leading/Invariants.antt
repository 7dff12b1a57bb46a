use Rattle.tree_interpreter.specs.Trees.{stmts_of}
use Rattle.tree_interpreter.specs.Weights.{stmts_weight}
use Rattle.tree_interpreter.specs.Walking.{Leads}
use Rattle.tree_interpreter.proofs.rests.OpenCall.leading.Given as goal

abbrev pub invariant-loop-others : goal.invariant-loop-others
invariant-loop-others l = Leads l.fn.self l.fn.placed l.self l.left

abbrev pub decreases-loop-others : goal.decreases-loop-others
decreases-loop-others l = stmts_weight 0 0 (stmts_of l.left.statements.now)
