use Rattle.std.proofs.Common.{◌≡◌, ◌+◌, ◌<◌, ◌^◌}
use Rattle.source_meaning.specs.Scope.{variables_in}
use Rattle.tree_interpreter.specs.Trees.{stmt_of}
use Rattle.tree_interpreter.specs.Counts.{capped}
use Rattle.tree_interpreter.specs.Parts.{listed, all_of, weigh_parts}
use Rattle.tree_interpreter.proofs.frames.variables_of.Given as goal

abbrev pub invariant-loop-part : goal.invariant-loop-part
invariant-loop-part l = (capped (l.count + all_of (listed l.parts)) ≡ capped (variables_in (stmt_of l.fn.s))) × (l.count < 2 ^ 32)

abbrev pub decreases-loop-part : goal.decreases-loop-part
decreases-loop-part l = weigh_parts (listed l.parts)
