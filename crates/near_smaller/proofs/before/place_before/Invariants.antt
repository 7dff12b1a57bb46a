use Rattle.std.proofs.Common.{◌/◌, ◌^◌}
use Rattle.near_smaller.specs.Nearest.{IsPrevious}
use Rattle.near_smaller.specs.Levels.{lists_of, level_at}
use Rattle.near_smaller.proofs.before.place_before.Given as goal

abbrev pub invariant-loop-below : goal.invariant-loop-below
invariant-loop-below l = IsPrevious (level_at (lists_of l.levels) l.below) (l.i / 2 ^ l.below) l.fn.x l.place
