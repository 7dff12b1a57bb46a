use Rattle.std.proofs.Common.{◌≡◌, ◌≤◌}
use Rattle.ast_rows.specs.NodeRows.{run_before}
use Rattle.ast_rows.proofs.by_hand.first_row.Given as goal

abbrev pub invariant-loop-low : goal.invariant-loop-low
invariant-loop-low l = (run_before l.parents l.i l.low ≡ run_before l.parents l.i l.i) × (l.low ≤ l.i)

abbrev pub decreases-loop-low : goal.decreases-loop-low
decreases-loop-low l = l.low
