-- What the loop of `kin_into` keeps.
use Rattle.std.proofs.Common.{◌≡◌, ℕ, ◌<◌}
use Rattle.list_cuts.specs.Cuts.{number_at}
use Rattle.row_kin.specs.Taken.{first_of, parent_by, place_by}
use Rattle.row_kin.proofs.alone.kin_into.Given as goal

abbrev pub invariant-loop-i : goal.invariant-loop-i
invariant-loop-i l = record {
  parents : (k : ℕ) → k < l.i → number_at l.parents k ≡ parent_by l.lows l.i k;
  firsts : (k : ℕ) → k < l.i → number_at l.firsts k ≡ first_of l.lows k;
  places : (k : ℕ) → k < l.i → number_at l.places k ≡ place_by l.lows l.i k;
}
