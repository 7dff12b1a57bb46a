-- What the loop of `move_behind` keeps, and why it ends.
use Rattle.std.proofs.Common.{◌≡◌, ℕ, ◌<◌, ◌≤◌}
use Rattle.list_cuts.specs.Cuts.{number_at}
use Rattle.row_kin.specs.Taken.{placed_by, Looks}
use Rattle.row_kin.proofs.intake.Taker.move_behind.Given as goal

abbrev pub invariant-loop-top : goal.invariant-loop-top
invariant-loop-top l = record {
  low : l.start ≤ l.top;
  high : l.top ≤ l.self.row;
  looks : Looks l.self.lows.now l.self.row l.top;
  before : (k : ℕ) → k < l.top → number_at l.places k ≡ number_at l.fn.places k;
  placed : (k : ℕ) → l.top ≤ k → k < l.self.row → number_at l.places k ≡ placed_by l.self.lows.now l.self.row k (number_at l.fn.places k);
  kept : (k : ℕ) → l.self.row ≤ k → number_at l.places k ≡ number_at l.fn.places k;
}

abbrev pub decreases-loop-top : goal.decreases-loop-top
decreases-loop-top l = l.top
