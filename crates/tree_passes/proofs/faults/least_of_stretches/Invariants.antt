-- The least key of the stretches so far.
use Rattle.std.proofs.Common.{◌≡◌}
use Rattle.list_cuts.specs.Cuts.{start_of}
use Rattle.row_columns.specs.RowFaults.{least_in}
use Rattle.tree_passes.proofs.faults.least_of_stretches.Given as goal

abbrev pub invariant-loop-c : goal.invariant-loop-c
invariant-loop-c l = l.least ≡ least_in l.columns.kinds.items l.columns.lows.items l.columns.tokens.items 0 (start_of l.ends l.c)
