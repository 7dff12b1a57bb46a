use Rattle.pass_views.proofs.Showing.{are_tokens, passed_on, tokens_only}
use Rattle.pass_views.proofs.show.token_arrays.Goals as goal

pub returns-clause-shown : goal.returns-clause-shown
returns-clause-shown g c = are_tokens c.args.source.now c.in_ok-tokens.tokens c.in_ok-token_columns.field-0.items c.in_ok-tokens.ensures.ok c.in_ok-token_columns.ensures

pub returns-in_err-tokens-clause-stopped : goal.returns-in_err-tokens-clause-stopped
returns-in_err-tokens-clause-stopped g c =
    passed_on c.args.source.now c.from_residual.result c.in_err-tokens.field-0.0 c.from_residual.ensures.1
    (λ none columns is. none (tokens_only c.args.source.now columns is).0) c.in_err-tokens.ensures.stopped
