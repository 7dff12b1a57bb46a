-- The sums before the stretches so far, and before the next one.
use Rattle.std.proofs.Common.{◌≡◌, suc, map}
use Rattle.std.specs.List.{range_with_len}
use Rattle.list_cuts.specs.Cuts.{start_of}
use Rattle.rv_regs.specs.Depths.{sum_before}
use Rattle.rv_regs.proofs.depth_column.starts.Given as goal

abbrev pub invariant-loop-c : goal.invariant-loop-c
invariant-loop-c l = record {
  sum : l.sum ≡ sum_before l.columns.kinds.now l.columns.parents.now l.columns.places.now (start_of l.ends l.c);
  starts : l.starts.items ≡ map (λ c. sum_before l.columns.kinds.now l.columns.parents.now l.columns.places.now (start_of l.ends c)) (range_with_len 0 (suc l.c));
}
