use Rattle.std.proofs.Common.{◌≡◌, drop}
use Rattle.ll1_sets.specs.Marking.{begins}
use Rattle.ll1_sets.proofs.sets.begins.Given as goal

abbrev pub invariant-loop-i : goal.invariant-loop-i
invariant-loop-i l = begins l.nullable l.first l.b l.form ≡ begins l.nullable l.first l.b (drop l.i l.form)
