use Rattle.std.proofs.Common.{◌≡◌, ◌*◌, length}
use Rattle.llp_tables.specs.PieceRows.{AreRows}
use Rattle.ll1_sets.specs.Width.{width_of}
use Rattle.llp_tables.proofs.assembly.Assembly.add_rows.Given as goal

abbrev pub invariant-loop-b : goal.invariant-loop-b
invariant-loop-b l = record {
  rows : AreRows l.self.grammar.now l.rows.pieces.items l.rows.productions.items;
  place : length l.rows.pieces.items ≡ l.b * width_of l.self.grammar.now;
}
