use Rattle.std.proofs.Common.{◌≡◌, drop, length}
use Rattle.pass_page.specs.Page.{levels}
use Rattle.pass_page.proofs.levels.find_levels.Given as goal

abbrev pub invariant-loop-k : goal.invariant-loop-k
invariant-loop-k l = (length l.found ≡ length l.rows) × (drop l.k l.found ≡ levels (drop l.k l.rows))
