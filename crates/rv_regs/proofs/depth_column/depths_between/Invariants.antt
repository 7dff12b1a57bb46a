-- The depths so far, and the sum before the next row.
use Rattle.std.proofs.Common.{◌≡◌, ◌-◌, ◌≤◌, map}
use Rattle.std.specs.List.{range_with_len}
use Rattle.rv_regs.specs.Depths.{depth_in, sum_before}
use Rattle.rv_regs.proofs.depth_column.depths_between.Given as goal

abbrev pub invariant-loop-k : goal.invariant-loop-k
invariant-loop-k l = record {
  order : l.fn.from ≤ l.k;
  sum : l.sum ≡ sum_before l.columns.kinds.now l.columns.parents.now l.columns.places.now l.k;
  depths : l.depths.items ≡ map (depth_in l.columns.kinds.now l.columns.parents.now l.columns.places.now) (range_with_len l.fn.from (l.k - l.fn.from));
}
