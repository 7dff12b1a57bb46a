use Rattle.std.proofs.Common.{◌≡◌, map}
use Rattle.std.specs.Prelude.{codes}
use Rattle.std.specs.List.{range_with_len}
use Rattle.pass_tables.specs.Tables.{numbers_or_dashes}
use Rattle.pass_tables.specs.ByRow.{parent_in}
use Rattle.pass_tables.proofs.rows.parents.Given as goal

abbrev pub invariant-loop-k : goal.invariant-loop-k
invariant-loop-k l = l.column ≡ numbers_or_dashes (codes "parent") (map (parent_in l.rows) (range_with_len 0 l.k))
