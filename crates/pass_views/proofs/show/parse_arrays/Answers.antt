use Rattle.std.proofs.Common.{◌∙◌, ap}
use Rattle.source_meaning.specs.Grammar.{grammar}
use Rattle.pass_tables.specs.Tables.{parse_columns}
use Rattle.pass_views.proofs.Showing.{are_steps, passed_on, parse_only}
use Rattle.pass_views.proofs.show.parse_arrays.Goals as goal

pub returns-clause-shown : goal.returns-clause-shown
returns-clause-shown g c =
    let t = c.in_ok-productions.ensures.parsed in
    are_steps c.args.source.now _ _ c.in_ok-production_arrays.field-0.items t.0 c.in_ok-productions.ensures.lexed t.1 t.2
    (c.in_ok-production_arrays.ensures ∙ ap (parse_columns grammar) c.deref.ensures.value)

pub returns-in_err-productions-clause-stopped : goal.returns-in_err-productions-clause-stopped
returns-in_err-productions-clause-stopped g c =
    passed_on c.args.source.now c.from_residual.result c.in_err-productions.field-0.0 c.from_residual.ensures.1
    (λ none columns is. let h = parse_only c.args.source.now columns is in none h.0 h.1) c.in_err-productions.ensures.stopped
