use Rattle.std.proofs.Common.{◌≡◌, List, Some, length, sym, ap, subst, slice_get, ◌∙◌}
use Rattle.std.proofs.lemmas.Option.{slice_get-get_or}
use Rattle.llp_wide.specs.Added.{Adds, SomeBelow}
use Rattle.llp_wide.specs.Claims.{IsStopBy, IsStopOf}
use Rattle.llp_wide.specs.Places.{Spot}
use Rattle.llp_wide.proofs.Additions.{adds_next}
use Rattle.llp_wide.proofs.ClaimLists.{by_spot}
use Rattle.llp_wide.proofs.claims.Ground.add_all_stops.Goals as goal

pub loop-n-preserved : goal.loop-n-preserved
loop-n-preserved c =
    let groups = c.args.self.now.groups.now in
    let spots : List Spot = c.index-groups-n.result in
    let is : slice_get groups c.loop-n.n ≡ Some spots = slice_get-get_or groups c.loop-n.n spots c.loop-n-test.true ∙ ap Some (sym c.index-groups-n.is) in
    let n = c.args.self.now.nullable.now in
    let f = c.args.self.now.first.now in
    let b = c.args.self.now.b in
    let one : Adds (SomeBelow (length spots) (IsStopBy n f b spots)) c.loop-n.waiting.items c.add_stops_of.new.waiting.items =
    subst (λ (xs : List Spot). Adds (SomeBelow (length xs) (IsStopBy n f b xs)) c.loop-n.waiting.items c.add_stops_of.new.waiting.items) (c.as_slice.ensures.value ∙ c.group.view_is) c.in_ok-add_stops_of.ensures in
    adds_next (IsStopOf n f b groups) c.loop-n.n c.args.waiting.now.items c.loop-n.waiting.items c.add_stops_of.new.waiting.items c.loop-n.invariant
    (by_spot groups c.loop-n.n spots (λ xs. SomeBelow (length xs) (IsStopBy n f b xs)) c.loop-n.waiting.items c.add_stops_of.new.waiting.items is one)
