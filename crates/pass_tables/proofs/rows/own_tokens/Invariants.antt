use Rattle.std.proofs.Common.{◌≡◌, map}
use Rattle.std.specs.Prelude.{codes}
use Rattle.std.specs.List.{range_with_len}
use Rattle.pass_tables.specs.Tables.{numbers_or_dashes, token_in}
use Rattle.pass_tables.proofs.rows.own_tokens.Given as goal

abbrev pub invariant-loop-k : goal.invariant-loop-k
invariant-loop-k l = l.column ≡ numbers_or_dashes (codes "token") (map (token_in l.rows) (range_with_len 0 l.k))
