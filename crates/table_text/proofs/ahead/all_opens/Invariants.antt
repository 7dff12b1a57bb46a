use Rattle.std.proofs.Common.{◌≡◌, ◌<◌, ℕ, [], length, slice_index_or}
use Rattle.table_text.specs.Ahead.{IsLeftBy}
use Rattle.table_text.proofs.ahead.all_opens.Given as goal

abbrev pub invariant-loop-a : goal.invariant-loop-a
invariant-loop-a l = record {
  len : length l.opens.items ≡ l.a;
  each : (n : ℕ) → n < l.a → IsLeftBy l.grammar l.first l.predictions n (slice_index_or l.opens.items n []);
}
