-- What the rows so far add.
use Rattle.rv_regs.specs.Depths.{Adds}
use Rattle.rv_regs.proofs.depth_column.sum_between.Given as goal

abbrev pub invariant-loop-k : goal.invariant-loop-k
invariant-loop-k l = Adds l.columns.kinds.now l.columns.parents.now l.columns.places.now l.fn.from l.k l.sum
