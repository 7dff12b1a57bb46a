use Rattle.llp_wide.specs.Places.{IsSpotAt}
use Rattle.llp_wide.proofs.Additions.{adds_next}
use Rattle.llp_wide.proofs.places.Collector.add_places_at.Goals as goal

pub loop-y-preserved : goal.loop-y-preserved
loop-y-preserved c =
    let s = c.args.self.now in
    adds_next (IsSpotAt s.nullable.now s.all.now s.owner c.args.item.right.now c.args.item.dot) c.loop-y.y c.args.places.now.items c.loop-y.places.items c.add_place.new.places.items c.loop-y.invariant c.in_ok-add_place.ensures
