use Rattle.std.proofs.Common.{◌≡◌, length}
use Rattle.pareas_core.specs.Reading.{WritesPrefix}
use Rattle.pareas_core.proofs.writing.write_all.Given as goal

abbrev pub invariant-loop-rest : goal.invariant-loop-rest
invariant-loop-rest g l = record {
  written : (p : WritesPrefix (g.O.ByteOut.written l.initial.out) (g.O.ByteOut.written l.out) l.bytes) × (p.rest ≡ l.rest);
  worked : g.O.ByteOut.faults l.out ≡ g.O.ByteOut.faults l.initial.out;
}

abbrev pub decreases-loop-rest : goal.decreases-loop-rest
decreases-loop-rest g l = length l.rest
