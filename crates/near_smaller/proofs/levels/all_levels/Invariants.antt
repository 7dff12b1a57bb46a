use Rattle.std.proofs.Common.{◌≡◌, ◌-◌, ◌^◌, ◌≤◌, [], ◌∷◌, ◌++◌, length}
use Rattle.near_smaller.specs.Levels.{AreRising, lists_of, level_at}
use Rattle.near_smaller.proofs.levels.all_levels.Given as goal

abbrev pub invariant-loop-level : goal.invariant-loop-level
invariant-loop-level g l = record {
  rising : AreRising (lists_of l.levels.items ++ l.level.items ∷ []);
  lowest : level_at (lists_of l.levels.items ++ l.level.items ∷ []) 0 ≡ l.values;
  few : length (lists_of l.levels.items) ≤ 60;
  size : length l.level.items ≤ 2 ^ (60 - length (lists_of l.levels.items));
}

abbrev pub decreases-loop-level : goal.decreases-loop-level
decreases-loop-level g l = length l.level.items
