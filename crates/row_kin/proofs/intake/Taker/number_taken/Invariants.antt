-- What the loop of `number_taken` keeps, and why it ends.
use Rattle.std.proofs.Common.{◌≡◌, ℕ, ◌<◌, ◌≤◌}
use Rattle.list_cuts.specs.Cuts.{number_at}
use Rattle.row_kin.specs.Taken.{taken_by, placed_by, Looks}
use Rattle.row_kin.proofs.intake.Taker.number_taken.Given as goal

abbrev pub invariant-loop-top : goal.invariant-loop-top
invariant-loop-top l = record {
  low : l.top ≤ l.start;
  looks : Looks l.self.lows.now l.self.row l.top;
  counted : l.rank ≡ taken_by l.self.lows.now l.self.row l.top;
  before : (k : ℕ) → k < l.top → number_at l.places k ≡ number_at l.fn.places k;
  placed : (k : ℕ) → l.top ≤ k → k < l.start → number_at l.places k ≡ placed_by l.self.lows.now l.self.row k (number_at l.fn.places k);
  kept : (k : ℕ) → l.start ≤ k → number_at l.places k ≡ number_at l.fn.places k;
}

abbrev pub decreases-loop-top : goal.decreases-loop-top
decreases-loop-top l = l.top
