use Rattle.std.proofs.Common.{length}
use Rattle.scatter_rows.specs.Worked.{HaveBeenPut}
use Rattle.scatter_rows.proofs.alone.put_between.Given as goal

abbrev pub invariant-loop-i : goal.invariant-loop-i
invariant-loop-i l = HaveBeenPut l.places l.values l.i (length l.initial.cells) l.cells
