use Rattle.llp_wide.specs.Added.{Adds, SomeBelow}
use Rattle.llp_wide.specs.Claims.{IsStopBy}
use Rattle.llp_wide.proofs.claims.Ground.add_stops_of.Given as goal

abbrev pub invariant-loop-i : goal.invariant-loop-i
invariant-loop-i l = Adds (SomeBelow l.i (IsStopBy l.self.nullable.now l.self.first.now l.self.b l.places)) l.fn.waiting.items l.waiting.items
