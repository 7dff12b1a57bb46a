use Rattle.pass_views.proofs.Showing.{are_pairs, pairs_only, passed_on}
use Rattle.pass_views.proofs.show.pair_arrays.Goals as goal

pub returns-clause-shown : goal.returns-clause-shown
returns-clause-shown g c =
    let t = c.in_ok-tokens.ensures.parsed in
    let is = c.in_ok-arrays_of_pairs.ensures in
    are_pairs c.args.source.now c.in_ok-tokens.tokens c.kinds.result.now c.in_ok-arrays_of_pairs.field-0.items t.0 is.0 c.in_ok-tokens.ensures.lexed t.1 c.kinds.ensures is.1 is.2

pub returns-in_err-tokens-clause-stopped : goal.returns-in_err-tokens-clause-stopped
returns-in_err-tokens-clause-stopped g c =
    passed_on c.args.source.now c.from_residual.result c.in_err-tokens.field-0.0 c.from_residual.ensures.1
    (λ none columns is. let h = pairs_only c.args.source.now columns is in none h.0 h.2) c.in_err-tokens.ensures.stopped
