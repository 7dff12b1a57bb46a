use Rattle.std.proofs.Common.{◌≤◌, ◌-◌, length}
use Rattle.scatter_rows.specs.Worked.{HaveBeenPut}
use Rattle.scatter_rows.proofs.alone.scatter_alone.Given as goal

abbrev pub invariant-loop-from : goal.invariant-loop-from
invariant-loop-from g l = record {
  within : l.from ≤ length l.places;
  numbered : l.chunk ≤ l.from;
  put : HaveBeenPut l.places l.values l.from (length l.initial.cells) l.cells;
}

abbrev pub decreases-loop-from : goal.decreases-loop-from
decreases-loop-from g l = length l.places - l.from
