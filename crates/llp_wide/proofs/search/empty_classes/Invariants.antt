use Rattle.std.proofs.Common.{◌≡◌, ℕ, Some, length, slice_get}
use Rattle.grammar_file.specs.declared.symbols.Symbol.{Symbol}
use Rattle.llp_tables.specs.Lookbacks.{cells_at}
use Rattle.llp_tables.specs.Slots.{Empty}
use Rattle.llp_tables.specs.declared.cells.Members.{Members}
use Rattle.llp_wide.specs.Classes.{IsOpen}
use Rattle.llp_wide.proofs.search.empty_classes.Given as goal

abbrev pub invariant-loop : goal.invariant-loop
invariant-loop l =
    record {
      count : length l.classes.items ≡ l.counter;
      cells : (z : ℕ) (m : Members) → slice_get l.classes.items z ≡ Some m → IsOpen 0 0 m;
      empty : (z : ℕ) (s : Symbol) → cells_at l.classes.items z s ≡ Empty;
    }
