use Rattle.std.proofs.Common.{◌≡◌, ℕ, Some, length, slice_get}
use Rattle.table_text.specs.Ahead.{IsAhead}
use Rattle.table_text.specs.declared.ahead.Ahead.{Ahead}
use Rattle.table_text.proofs.ahead.aheads_of.Given as goal

abbrev pub invariant-loop-b : goal.invariant-loop-b
invariant-loop-b l = record {
  len : length l.aheads.items ≡ l.b;
  each : (n : ℕ) (ahead : Ahead) → slice_get l.aheads.items n ≡ Some ahead → IsAhead l.grammar n ahead;
}
