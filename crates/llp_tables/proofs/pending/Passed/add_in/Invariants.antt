use Rattle.llp_tables.specs.Forced.{IsPass}
use Rattle.llp_tables.specs.Slots.{One}
use Rattle.llp_tables.specs.Waiting.{Adds}
use Rattle.llp_tables.proofs.PlaceAdds.{By}
use Rattle.llp_tables.proofs.pending.Passed.add_in.Given as goal

abbrev pub invariant-loop-k : goal.invariant-loop-k
invariant-loop-k l = Adds (By (IsPass l.self.nullable.now (One l.self.below.now)) l.right l.k) l.initial.pending.items l.pending.items
