use Rattle.std.proofs.Common.{◌≡◌, ℕ, length, Some, slice_get}
use Rattle.ll1_sets.specs.Conflicts.{LeastBelow}
use Rattle.ll1_sets.specs.Table.{Column, IsColumn}
use Rattle.ll1_sets.proofs.table.columns_of.Given as goal

abbrev pub invariant-loop-b : goal.invariant-loop-b
invariant-loop-b l =
    record {
      width : length l.columns.items ≡ l.b;
      columns : (k : ℕ) (column : Column) → slice_get l.columns.items k ≡ Some column → IsColumn l.grammar k column;
      least : LeastBelow l.grammar l.b l.best;
    }
