use Rattle.std.proofs.Common.{length, ◌-◌}
use Rattle.batch_records.proofs.Reached.{IsReached}
use Rattle.batch_records.proofs.reading.places.Given as goal

abbrev pub invariant-loop-place : goal.invariant-loop-place
invariant-loop-place l = IsReached l.input l.place l.count l.records.items

abbrev pub decreases-loop-place : goal.decreases-loop-place
decreases-loop-place l = length l.input - l.place
