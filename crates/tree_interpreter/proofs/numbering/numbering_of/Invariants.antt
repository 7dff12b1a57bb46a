use Rattle.std.proofs.Common.{◌≡◌, ◌+◌, ℕ}
use Rattle.source_meaning.specs.Scope.{variables_in}
use Rattle.tree_interpreter.specs.Trees.{stmt_of}
use Rattle.tree_interpreter.specs.Parts.{listed, all_of, weigh_parts}
use Rattle.tree_interpreter.specs.Numbering.{numbers}
use Rattle.tree_interpreter.specs.Laying.{done, laid}
use Rattle.tree_interpreter.proofs.numbering.numbering_of.Given as goal

abbrev pub invariant-loop-part : goal.invariant-loop-part
invariant-loop-part l = (n : ℕ) → l.end ≡ n + variables_in (stmt_of l.fn.s) → (l.numbering.next ≡ n + all_of (listed l.parts)) × (laid n (listed l.parts) (done l.numbering) ≡ numbers n (stmt_of l.fn.s))

abbrev pub decreases-loop-part : goal.decreases-loop-part
decreases-loop-part l = weigh_parts (listed l.parts)
