use Rattle.std.proofs.Common.{◌-◌, ◌≤◌, length, map}
use Rattle.state_monoid.specs.Explored.{AreExplored, AreRows}
use Rattle.state_monoid.proofs.explore.explore.Given as goal

abbrev pub invariant-loop-alloc : goal.invariant-loop-alloc
invariant-loop-alloc l = record {
  explored : AreExplored l.letters.dfa l.letters.functions.keys l.functions.keys l.origins.items;
  rows : AreRows l.letters.functions.keys l.functions.keys (map (λ row. row.items) l.rows.items);
  few : length l.rows.items ≤ length l.functions.keys;
}

abbrev pub decreases-loop-alloc : goal.decreases-loop-alloc
decreases-loop-alloc l = 4096 - length l.rows.items
