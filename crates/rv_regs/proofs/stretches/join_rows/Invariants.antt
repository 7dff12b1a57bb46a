-- The rows so far.
use Rattle.word_monoid.specs.Monoid.{IsItem}
use Rattle.depth_rules.specs.Segments.{segments}
use Rattle.rv_regs.specs.Blocks.{Reaches}
use Rattle.rv_regs.proofs.stretches.join_rows.Given as goal

abbrev pub invariant-loop-k : goal.invariant-loop-k
invariant-loop-k l = IsItem segments l.all × Reaches l.kinds l.depths l.from l.k l.fn.before l.all
