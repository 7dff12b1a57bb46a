use Rattle.llp_wide.specs.Added.{Adds, SomeBelow}
use Rattle.llp_wide.specs.Claims.{IsStopOf}
use Rattle.llp_wide.proofs.claims.Ground.add_all_stops.Given as goal

abbrev pub invariant-loop-n : goal.invariant-loop-n
invariant-loop-n l = Adds (SomeBelow l.n (IsStopOf l.self.nullable.now l.self.first.now l.self.b l.self.groups.now)) l.fn.waiting.items l.waiting.items
