-- What the loop of `shift` keeps.
use Rattle.std.proofs.Common.{◌≡◌, ℕ, ◌+◌, ◌<◌, ◌≤◌}
use Rattle.list_cuts.specs.Cuts.{number_at}
use Rattle.row_kin.proofs.stretches.shift.Given as goal

abbrev pub invariant-loop-n : goal.invariant-loop-n
invariant-loop-n l = record {
  done : (k : ℕ) → k < l.n-index → number_at l.numbers k ≡ l.by + number_at l.fn.numbers k;
  left : (k : ℕ) → l.n-index ≤ k → number_at l.numbers k ≡ number_at l.fn.numbers k;
}
