use Rattle.std.proofs.Common.{◌-◌, ◌≤◌, ◌^◌, length}
use Rattle.pointer_jumping.proofs.Jumping.{AreRounds}
use Rattle.pointer_jumping.proofs.ancestors.nearest.Given as goal

abbrev pub invariant-loop-jumps : goal.invariant-loop-jumps
invariant-loop-jumps g l = record {
  counted : l.fn.steps ≤ l.steps;
  rounds : AreRounds l.parents l.marks (l.steps - l.fn.steps) l.jumps.items;
}

abbrev pub decreases-loop-jumps : goal.decreases-loop-jumps
decreases-loop-jumps g l = length l.parents - 2 ^ (l.steps - l.fn.steps)
