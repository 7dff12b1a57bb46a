use Rattle.std.proofs.Common.{◌≡◌, Some, sym, ap, slice_get, ◌∙◌}
use Rattle.std.proofs.lemmas.Option.{slice_get-get_or}
use Rattle.llp_wide.specs.Claims.{Claim, IsPassAt}
use Rattle.llp_wide.specs.Places.{Spot}
use Rattle.llp_wide.proofs.Additions.{adds_next}
use Rattle.llp_wide.proofs.ClaimLists.{by_spot}
use Rattle.llp_wide.proofs.claims.add_passes.Goals as goal

pub loop-i-preserved : goal.loop-i-preserved
loop-i-preserved c =
    let spots = c.args.places.now in
    let spot : Spot = c.index-places-i.result in
    let is : slice_get spots c.loop-i.i ≡ Some spot = slice_get-get_or spots c.loop-i.i spot c.loop-i-test.true ∙ ap Some (sym c.index-places-i.is) in
    let owner : Claim = c.args.owner.now in
    adds_next (λ i claim. (s : Spot) × (slice_get spots i ≡ Some s) × IsPassAt c.args.nullable.now owner s claim) c.loop-i.i c.args.waiting.now.items c.loop-i.waiting.items c.add_pass.new.waiting.items c.loop-i.invariant
    (by_spot spots c.loop-i.i spot (IsPassAt c.args.nullable.now owner) c.loop-i.waiting.items c.add_pass.new.waiting.items is c.in_ok-add_pass.ensures)
