-- What the loop of `take_in` keeps, and why it ends.
use Rattle.std.proofs.Common.{◌≡◌, ℕ, ◌+◌, ◌<◌, ◌≤◌}
use Rattle.list_cuts.specs.Cuts.{number_at}
use Rattle.row_kin.specs.Taken.{taken_by, parent_by, Looks}
use Rattle.row_kin.proofs.intake.Taker.take_in.Given as goal

abbrev pub invariant-loop-parents : goal.invariant-loop-parents
invariant-loop-parents l = record {
  low : l.top ≤ l.start;
  looks : Looks l.self.lows.now l.self.row l.top;
  counted : l.count + taken_by l.self.lows.now l.self.row l.top ≡ taken_by l.self.lows.now l.self.row l.start;
  roots : (k : ℕ) → k < l.top → number_at l.parents k ≡ parent_by l.self.lows.now l.self.row k;
  taken : (k : ℕ) → l.top ≤ k → k < l.start → number_at l.parents k ≡ parent_by l.self.lows.now (l.self.row + 1) k;
  kept : (k : ℕ) → l.start ≤ k → number_at l.parents k ≡ number_at l.fn.parents k;
}

abbrev pub decreases-loop-parents : goal.decreases-loop-parents
decreases-loop-parents l = l.top
