use Rattle.std.proofs.Common.{◌≡◌, ◌<◌, ℕ, length}
use Rattle.llp_tables.specs.LeastMembers.{AreLeastMembers}
use Rattle.llp_tables.specs.Lookbacks.{cells_at}
use Rattle.llp_tables.proofs.lookback_cells.all_cells.Given as goal

abbrev pub invariant-loop-b : goal.invariant-loop-b
invariant-loop-b l =
    record {
      count : length l.all.items ≡ l.b;
      least : (k : ℕ) → k < l.b → AreLeastMembers l.grammar k (cells_at l.all.items k);
    }
