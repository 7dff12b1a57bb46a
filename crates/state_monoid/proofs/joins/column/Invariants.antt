use Rattle.std.proofs.Common.{◌≡◌, map, take}
use Rattle.std.specs.Prelude.{slice_index}
use Rattle.state_monoid.proofs.joins.column.Given as goal

abbrev pub invariant-loop-row : goal.invariant-loop-row
invariant-loop-row l = l.column.items ≡ map (λ row. slice_index row.items l.letter) (take l.row-index l.rows)
