use Rattle.pass_views.proofs.Showing.{passed_on, are_rows, rows_only}
use Rattle.pass_views.proofs.show.row_arrays.Goals as goal

pub returns-clause-shown : goal.returns-clause-shown
returns-clause-shown g c =
    let t = c.in_ok-tokens.ensures.shaped in
    are_rows c.args.source.now c.in_ok-tokens.tokens c.in_ok-tokens.rows c.in_ok-row_columns.field-0.items t.0 c.in_ok-tokens.ensures.lexed t.1 c.in_ok-row_columns.ensures

pub returns-in_err-tokens-clause-stopped : goal.returns-in_err-tokens-clause-stopped
returns-in_err-tokens-clause-stopped g c =
    passed_on c.args.source.now c.from_residual.result c.in_err-tokens.field-0.0 c.from_residual.ensures.1
    (λ none columns is. let h = rows_only c.args.source.now columns is in none h.0 h.1) c.in_err-tokens.ensures.stopped
