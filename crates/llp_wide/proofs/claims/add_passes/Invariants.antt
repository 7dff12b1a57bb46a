use Rattle.std.proofs.Common.{◌≡◌, Some, slice_get}
use Rattle.llp_wide.specs.Added.{Adds, SomeBelow}
use Rattle.llp_wide.specs.Claims.{IsPassAt}
use Rattle.llp_wide.specs.Places.{Spot}
use Rattle.llp_wide.proofs.claims.add_passes.Given as goal

abbrev pub invariant-loop-i : goal.invariant-loop-i
invariant-loop-i l =
    Adds (SomeBelow l.i (λ i claim. (spot : Spot) × (slice_get l.places i ≡ Some spot) × IsPassAt l.nullable l.owner spot claim)) l.fn.waiting.items l.waiting.items
