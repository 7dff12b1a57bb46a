use Rattle.std.proofs.Common.{inl, inr}
use Rattle.std.proofs.lemmas.Result.{IfOk-weaker}
use Rattle.llp_wide.specs.Places.{IsSpotUnder, IsGathering, IsSpotOn}
use Rattle.llp_wide.proofs.Additions.{adds_then}
use Rattle.llp_wide.proofs.places.Collector.add_places.Goals as goal

pub returns : goal.returns
returns c =
    let n = c.args.self.now.nullable.now in
    let all = c.args.self.now.all.now in
    let ps = c.args.productions.now in
    let e = c.args.self.now.owner in
    IfOk-weaker c.add_gathering.result _ _
    (λ u h. adds_then (IsSpotUnder n all ps e) (IsGathering all e) (IsSpotOn n all ps e) c.args.places.now.items c.add_places_under.new.places.items c.add_gathering.new.places.items (λ x k. inl k) (λ x k. inr k) (λ x k. k) c.in_ok-add_places_under.ensures h)
    c.add_gathering.ensures
