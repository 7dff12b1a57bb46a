use Rattle.std.proofs.Common.{◌≡◌, map}
use Rattle.std.specs.Prelude.{codes}
use Rattle.std.specs.List.{range_with_len}
use Rattle.pass_tables.specs.Tables.{texts, token_in, token_text_or_nothing}
use Rattle.pass_tables.proofs.rows.own_texts.Given as goal

abbrev pub invariant-loop-k : goal.invariant-loop-k
invariant-loop-k l = l.column ≡ texts (codes "text") (map (λ k. token_text_or_nothing l.text l.tokens (token_in l.rows k)) (range_with_len 0 l.k))
