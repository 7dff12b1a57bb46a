use Rattle.std.proofs.Common.{◌≡◌, ◌+◌, ◌≤◌, ◌==◌, take, fold, if◌then◌else◌}
use Rattle.pareas_core.proofs.position.column_behind.Given as goal

abbrev pub invariant-loop-byte : goal.invariant-loop-byte
invariant-loop-byte l = record {
  column : l.column ≡ fold (λ c b. if b == 10 then 1 else c + 1) 1 (take l.byte-index l.front);
  few : l.column ≤ l.byte-index + 1;
}
