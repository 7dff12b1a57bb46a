use Rattle.std.proofs.Common.{◌≡◌}
use Rattle.std.specs.List.{range_with_len}
use Rattle.pass_tables.specs.Tables.{numbers}
use Rattle.pass_tables.proofs.columns.places.Given as goal

abbrev pub invariant-loop-k : goal.invariant-loop-k
invariant-loop-k l = l.column ≡ numbers l.title (range_with_len 0 l.k)
