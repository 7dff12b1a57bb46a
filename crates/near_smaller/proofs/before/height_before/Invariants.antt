use Rattle.std.proofs.Common.{ℕ, ◌/◌, ◌^◌, ◌<◌}
use Rattle.near_smaller.specs.Levels.{lists_of, level_at}
use Rattle.near_smaller.specs.Climbs.{PassesBefore}
use Rattle.near_smaller.proofs.before.height_before.Given as goal

abbrev pub invariant-loop-height : goal.invariant-loop-height
invariant-loop-height l = (k : ℕ) → k < l.height → PassesBefore (level_at (lists_of l.levels) k) (l.i / 2 ^ k) l.fn.x
