use Rattle.std.proofs.Common.{◌≡◌, ◌*◌, length}
use Rattle.llp_tables.specs.LookbackTable.{AreMembers}
use Rattle.ll1_sets.specs.Width.{width_of}
use Rattle.llp_tables.proofs.lookback_rows.lookbacks_by.Given as goal

abbrev pub invariant-loop-b : goal.invariant-loop-b
invariant-loop-b l = record {
  members : AreMembers l.grammar l.members.items;
  place : length l.members.items ≡ l.b * width_of l.grammar;
}
