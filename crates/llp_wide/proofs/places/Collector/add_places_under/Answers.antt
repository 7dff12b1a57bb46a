use Rattle.llp_wide.specs.Places.{IsSpotBy}
use Rattle.llp_wide.proofs.Additions.{adds_next}
use Rattle.llp_wide.proofs.places.Collector.add_places_under.Goals as goal

pub loop-i-preserved : goal.loop-i-preserved
loop-i-preserved c =
    let s = c.args.self.now in
    adds_next (IsSpotBy s.nullable.now s.all.now s.owner c.args.productions.now) c.loop-i.i c.args.places.now.items c.loop-i.places.items c.add_places_by.new.places.items c.loop-i.invariant c.in_ok-add_places_by.ensures
