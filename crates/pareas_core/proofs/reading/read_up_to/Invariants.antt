use Rattle.std.proofs.Common.{◌≡◌, ◌+◌, ◌-◌, ◌≤◌, length}
use Rattle.std.specs.Io.KnownBytes.{Consumes}
use Rattle.pareas_core.proofs.reading.read_up_to.Given as goal

abbrev pub invariant-loop-bytes : goal.invariant-loop-bytes
invariant-loop-bytes g l = record {
  taken : Consumes (g.I.ByteIn.left l.initial.input) (g.I.ByteIn.left l.input) l.bytes.items;
  bound : length l.bytes.items ≤ l.limit + 1;
  worked : g.I.ByteIn.faults l.input ≡ g.I.ByteIn.faults l.initial.input;
}

abbrev pub decreases-loop-bytes : goal.decreases-loop-bytes
decreases-loop-bytes g l = l.limit + 1 - length l.bytes.items
