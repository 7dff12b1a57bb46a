use Rattle.llp_wide.specs.Added.{Adds, SomeBelow}
use Rattle.llp_wide.specs.Claims.{IsStopAt}
use Rattle.llp_wide.proofs.claims.Ground.add_stops.Given as goal

abbrev pub invariant-loop-j : goal.invariant-loop-j
invariant-loop-j l = Adds (SomeBelow l.j (IsStopAt l.self.nullable.now l.self.first.now l.self.b l.context.after.now l.context.before l.context.symbol)) l.fn.waiting.items l.waiting.items
