use Rattle.llp_wide.specs.Added.{Adds, SomeBelow}
use Rattle.llp_wide.specs.Places.{IsSpotBy}
use Rattle.llp_wide.proofs.places.Collector.add_places_under.Given as goal

abbrev pub invariant-loop-i : goal.invariant-loop-i
invariant-loop-i l = Adds (SomeBelow l.i (IsSpotBy l.self.nullable.now l.self.all.now l.self.owner l.productions)) l.fn.places.items l.places.items
