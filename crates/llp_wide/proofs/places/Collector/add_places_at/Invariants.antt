use Rattle.llp_wide.specs.Added.{Adds, SomeBelow}
use Rattle.llp_wide.specs.Places.{IsSpotAt}
use Rattle.llp_wide.proofs.places.Collector.add_places_at.Given as goal

abbrev pub invariant-loop-y : goal.invariant-loop-y
invariant-loop-y l = Adds (SomeBelow l.y (IsSpotAt l.self.nullable.now l.self.all.now l.self.owner l.item.right.now l.item.dot)) l.fn.places.items l.places.items
