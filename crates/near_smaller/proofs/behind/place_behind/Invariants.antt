use Rattle.std.proofs.Common.{◌/◌, ◌^◌}
use Rattle.near_smaller.specs.Nearest.{IsNext}
use Rattle.near_smaller.specs.Levels.{lists_of, level_at}
use Rattle.near_smaller.proofs.behind.place_behind.Given as goal

abbrev pub invariant-loop-below : goal.invariant-loop-below
invariant-loop-below l = IsNext (level_at (lists_of l.levels) l.below) (l.i / 2 ^ l.below) l.fn.x l.place
