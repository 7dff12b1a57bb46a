use Rattle.std.proofs.Common.{[], ◌∷◌, ◌∙◌, ap, map}
use Rattle.std.specs.Prelude.{codes}
use Rattle.source_meaning.specs.Grammar.{terminal_name}
use Rattle.ast_rows.specs.TokenRows.{TokenRow}
use Rattle.pass_tables.specs.Tables.{numbers, places, texts}
use Rattle.pass_tables.proofs.Told.{map-map}
use Rattle.pass_tables.proofs.tokens.token_columns.Goals as goal

pub returns : goal.returns
returns c =
    let tokens = c.args.tokens.now in
    let count = c.in_ok-places.ensures ∙ ap (places (codes "token")) c.len.ensures in
    let kinds = c.in_ok-terminals.ensures ∙ ap (texts (codes "terminal")) (ap (map terminal_name) c.kinds.ensures ∙ map-map terminal_name (λ (t : TokenRow). t.terminal) tokens) in
    let starts = c.in_ok-starts.ensures ∙ ap (numbers (codes "start")) c.starts.ensures in
    let lengths = c.in_ok-lengths.ensures ∙ ap (numbers (codes "length")) c.lengths.ensures in
    c.in_ok-vec.ensures.items ∙ (λ i. count i ∷ kinds i ∷ starts i ∷ lengths i ∷ c.in_ok-lexemes.ensures i ∷ [])
