use Rattle.std.proofs.Common.{◌≡◌, ◌+◌, ◌*◌, length}
use Rattle.llp_tables.specs.LookbackTable.{AreMembers}
use Rattle.ll1_sets.specs.Width.{width_of}
use Rattle.llp_tables.proofs.lookback_rows.add_row.Given as goal

abbrev pub invariant-loop-a : goal.invariant-loop-a
invariant-loop-a l = record {
  members : AreMembers l.grammar l.members.items;
  place : length l.members.items ≡ l.b * width_of l.grammar + l.a;
}
