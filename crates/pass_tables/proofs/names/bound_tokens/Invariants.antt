use Rattle.std.proofs.Common.{◌≡◌, map}
use Rattle.std.specs.Prelude.{codes}
use Rattle.std.specs.List.{range_with_len}
use Rattle.pass_tables.specs.Tables.{bound_at, numbers_or_dashes}
use Rattle.pass_tables.proofs.names.bound_tokens.Given as goal

abbrev pub invariant-loop-k : goal.invariant-loop-k
invariant-loop-k l = l.column ≡ numbers_or_dashes (codes "declared at token") (map (bound_at l.rows l.names.meant) (range_with_len 0 l.k))
