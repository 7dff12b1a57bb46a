use Rattle.std.proofs.Common.{map}
use Rattle.state_monoid.specs.Explored.{AreColumns}
use Rattle.state_monoid.proofs.joins.columns.Given as goal

abbrev pub invariant-loop-letter : goal.invariant-loop-letter
invariant-loop-letter l = AreColumns (map (λ row. row.items) l.rows) l.letter (map (λ column. column.items) l.columns.items)
