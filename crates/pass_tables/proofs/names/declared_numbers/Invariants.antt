use Rattle.std.proofs.Common.{◌≡◌, map}
use Rattle.std.specs.Prelude.{codes}
use Rattle.std.specs.List.{range_with_len}
use Rattle.pass_tables.specs.Tables.{declared_at, numbers_or_dashes}
use Rattle.pass_tables.proofs.names.declared_numbers.Given as goal

abbrev pub invariant-loop-k : goal.invariant-loop-k
invariant-loop-k l = l.column ≡ numbers_or_dashes (codes "variable") (map (declared_at l.rows l.names.numbers) (range_with_len 0 l.k))
