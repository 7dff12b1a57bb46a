-- What the loop of `settle` keeps, and why it ends.
use Rattle.std.proofs.Common.{◌≡◌, ℕ, ◌-◌, ◌≤◌}
use Rattle.list_cuts.specs.Cuts.{number_at}
use Rattle.row_kin.specs.Settles.{Settling}
use Rattle.row_kin.proofs.stretches.Stretch.settle.Given as goal

abbrev pub invariant-loop-i : goal.invariant-loop-i
invariant-loop-i l = record {
  taken : Settling l.self.lows.now l.parents l.firsts l.places l.self.from l.self.to l.i l.top;
  kept_parents : (k : ℕ) → l.self.to ≤ k → number_at l.parents k ≡ number_at l.fn.parents k;
  kept_firsts : (k : ℕ) → l.self.to ≤ k → number_at l.firsts k ≡ number_at l.fn.firsts k;
  kept_places : (k : ℕ) → l.self.to ≤ k → number_at l.places k ≡ number_at l.fn.places k;
}

abbrev pub decreases-loop-i : goal.decreases-loop-i
decreases-loop-i l = l.self.to - l.i
