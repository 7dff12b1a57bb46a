use Rattle.llp_tables.specs.Forced.{IsForced}
use Rattle.llp_tables.specs.Slots.{Empty}
use Rattle.llp_tables.specs.Waiting.{Adds}
use Rattle.llp_tables.proofs.PlaceAdds.{By}
use Rattle.llp_tables.proofs.pending.Search.add_stops_in.Given as goal

abbrev pub invariant-loop-k : goal.invariant-loop-k
invariant-loop-k l = Adds (By (IsForced l.self.nullable.now l.self.first.now l.self.b Empty) l.right l.k) l.initial.pending.items l.pending.items
