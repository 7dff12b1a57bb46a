use Rattle.std.proofs.Common.{◌≡◌, take}
use Rattle.batch_records.specs.Answering.{all_bytes}
use Rattle.pareas_core.specs.Reading.{WritesAllBut}
use Rattle.pareas_core.proofs.writing.write_answers.Given as goal

abbrev pub invariant-loop-answer : goal.invariant-loop-answer
invariant-loop-answer g l = record {
  written : WritesAllBut l.buffer (g.O.ByteOut.written l.initial.out) (g.O.ByteOut.written l.out) (all_bytes (take l.answer-index l.answers));
  worked : g.O.ByteOut.faults l.out ≡ g.O.ByteOut.faults l.initial.out;
}
