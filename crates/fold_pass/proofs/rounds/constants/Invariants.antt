use Rattle.std.proofs.Common.{◌+◌, ◌-◌, ◌≤◌, length}
use Rattle.fold_pass.specs.Rounds.{AreRounds, IsBounded, unknown}
use Rattle.fold_pass.proofs.rounds.constants.Given as goal

abbrev pub invariant-loop-steps : goal.invariant-loop-steps
invariant-loop-steps g l = record {
  counted : l.fn.steps ≤ l.steps;
  rounds : AreRounds l.columns (l.steps - l.fn.steps) l.values.items l.fresh.items;
  few : length l.fresh.items ≤ length l.columns.kinds;
  bounded : IsBounded l.columns (l.steps - l.fn.steps);
}

abbrev pub decreases-loop-steps : goal.decreases-loop-steps
decreases-loop-steps g l = unknown l.values.items + length l.fresh.items
