use Rattle.llp_tables.specs.Waiting.{Adds}
use Rattle.llp_tables.proofs.PlaceAdds.{Stops}
use Rattle.llp_tables.proofs.pending.Search.add_stops.Given as goal

abbrev pub invariant-loop-j : goal.invariant-loop-j
invariant-loop-j l = Adds (Stops l.self.nullable.now l.self.first.now l.self.b l.place.after.now l.place.symbol l.j) l.initial.pending.items l.pending.items
