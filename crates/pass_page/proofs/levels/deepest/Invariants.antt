use Rattle.std.proofs.Common.{◌≡◌, take}
use Rattle.pass_page.specs.Page.{deepest}
use Rattle.pass_page.proofs.levels.deepest.Given as goal

abbrev pub invariant-loop-level : goal.invariant-loop-level
invariant-loop-level l = l.most ≡ deepest (take l.level-index l.levels)
