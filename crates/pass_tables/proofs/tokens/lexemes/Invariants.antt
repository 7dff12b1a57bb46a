use Rattle.std.proofs.Common.{◌≡◌, map}
use Rattle.std.specs.Prelude.{codes}
use Rattle.std.specs.List.{range_with_len}
use Rattle.pass_tables.specs.Tables.{texts, token_text}
use Rattle.pass_tables.proofs.tokens.lexemes.Given as goal

abbrev pub invariant-loop-k : goal.invariant-loop-k
invariant-loop-k l = l.column ≡ texts (codes "text") (map (token_text l.text l.tokens) (range_with_len 0 l.k))
