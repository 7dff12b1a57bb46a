use Rattle.std.proofs.Common.{◌≡◌, drop}
use Rattle.llp_wide.specs.Endings.{finishes}
use Rattle.llp_wide.proofs.endings.finishes.Given as goal

abbrev pub invariant-loop-i : goal.invariant-loop-i
invariant-loop-i l = finishes l.nullable l.last l.y l.form ≡ finishes l.nullable l.last l.y (drop l.i l.form)
