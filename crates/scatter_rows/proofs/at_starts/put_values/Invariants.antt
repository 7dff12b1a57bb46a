use Rattle.std.proofs.Common.{◌≡◌, ℕ, ◌<◌, ◌≤◌}
use Rattle.chunk_seats.specs.Tallies.{times}
use Rattle.scatter_rows.proofs.at_starts.put_values.Given as goal

abbrev pub invariant-loop-i : goal.invariant-loop-i
invariant-loop-i g l = record {
  board : l.seat.board ≡ l.initial.seat.board;
  kept : (i : ℕ) → 0 < times i l.initial.seat.view.put → 0 < times i l.seat.view.put;
  put : (i : ℕ) → l.from ≤ i → i < l.i → 0 < times i l.seat.view.put;
}
