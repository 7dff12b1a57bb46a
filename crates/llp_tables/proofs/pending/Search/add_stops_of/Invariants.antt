use Rattle.llp_tables.specs.Forced.{Forces, no_strings}
use Rattle.llp_tables.specs.Waiting.{Adds}
use Rattle.llp_tables.proofs.PlaceAdds.{ByRules}
use Rattle.llp_tables.proofs.pending.Search.add_stops_of.Given as goal

abbrev pub invariant-loop-i : goal.invariant-loop-i
invariant-loop-i l = Adds (ByRules (Forces l.self.nullable.now l.self.first.now l.self.b no_strings) l.productions l.i) l.initial.pending.items l.pending.items
