use Rattle.std.proofs.Common.{◌≡◌, ℕ, List, ◌∙◌, ap, sym, take, drop, get_or, map}
use Rattle.ast_rows.specs.TokenRows.{TokenRow}
use Rattle.pass_tables.proofs.Told.{by_columns}
use Rattle.pass_tables.proofs.tokens.lexeme.Goals as goal

pub returns : goal.returns
returns c =
    let text = c.args.text.now in
    let tokens = c.args.tokens.now in
    let k = c.args.number in
    let start : c.number_at-start.result ≡ get_or (map (λ (t : TokenRow). t.start) tokens) k 0 = c.number_at-start.ensures ∙ ap (λ (xs : List ℕ). get_or xs k 0) c.starts.ensures in
    let length : c.number_at-length.result ≡ get_or (map (λ (t : TokenRow). t.length) tokens) k 0 = c.number_at-length.ensures ∙ ap (λ (xs : List ℕ). get_or xs k 0) c.lengths.ensures in
    c.stretch_at.ensures ∙ (λ i. take (length i) (drop (start i) text)) ∙ sym (by_columns text tokens k)
