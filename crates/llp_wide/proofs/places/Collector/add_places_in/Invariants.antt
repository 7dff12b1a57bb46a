use Rattle.llp_wide.specs.Added.{Adds, SomeBelow}
use Rattle.llp_wide.specs.Places.{IsSpotOf}
use Rattle.llp_wide.proofs.places.Collector.add_places_in.Given as goal

abbrev pub invariant-loop-dot : goal.invariant-loop-dot
invariant-loop-dot l = Adds (SomeBelow l.dot (IsSpotOf l.self.nullable.now l.self.all.now l.self.owner l.right)) l.fn.places.items l.places.items
