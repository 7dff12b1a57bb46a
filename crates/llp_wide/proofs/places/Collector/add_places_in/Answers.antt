use Rattle.llp_wide.specs.Places.{IsSpotOf}
use Rattle.llp_wide.proofs.Additions.{adds_next}
use Rattle.llp_wide.proofs.places.Collector.add_places_in.Goals as goal

pub loop-dot-preserved : goal.loop-dot-preserved
loop-dot-preserved c =
    let s = c.args.self.now in
    adds_next (IsSpotOf s.nullable.now s.all.now s.owner c.args.right.now) c.loop-dot.dot c.args.places.now.items c.loop-dot.places.items c.add_places_at.new.places.items c.loop-dot.invariant c.in_ok-add_places_at.ensures
