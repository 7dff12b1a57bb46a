use Rattle.std.proofs.Common.{◌≡◌, ◌<◌, ◌^◌, max}
use Rattle.source_meaning.specs.Frames.{stmt_slots}
use Rattle.tree_interpreter.specs.Trees.{stmt_of}
use Rattle.tree_interpreter.specs.Counts.{capped}
use Rattle.tree_interpreter.specs.Parts.{listed, most_of, weigh_parts}
use Rattle.tree_interpreter.proofs.frames.slots_of.Given as goal

abbrev pub invariant-loop-part : goal.invariant-loop-part
invariant-loop-part l = (capped (max l.most (most_of (listed l.parts))) ≡ capped (stmt_slots (stmt_of l.fn.s))) × (l.most < 2 ^ 32)

abbrev pub decreases-loop-part : goal.decreases-loop-part
decreases-loop-part l = weigh_parts (listed l.parts)
