-- What the loop of `even_cuts` keeps, and why it ends.
use Rattle.std.proofs.Common.{◌≡◌, ℕ, ◌+◌, ◌-◌, ◌<◌, ◌≤◌, length, min}
use Rattle.list_cuts.specs.Cuts.{number_at, start_of, AreCuts}
use Rattle.list_cuts.proofs.cuts.even_cuts.Given as goal

abbrev pub invariant-loop-from : goal.invariant-loop-from
invariant-loop-from l = record {
  within : l.from ≤ l.places;
  cuts : AreCuts l.ends.items l.from;
  sizes : (c : ℕ) → c < length l.ends.items → number_at l.ends.items c ≡ min (start_of l.ends.items c + l.size) l.places;
}

abbrev pub decreases-loop-from : goal.decreases-loop-from
decreases-loop-from l = l.places - l.from
