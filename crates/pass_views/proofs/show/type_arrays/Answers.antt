use Rattle.std.proofs.Common.{false}
use Rattle.pass_views.proofs.Showing.{are_types, passed_on, types_only, unchecked}
use Rattle.pass_views.proofs.show.type_arrays.Goals as goal

pub returns-clause-shown : goal.returns-clause-shown
returns-clause-shown g c =
    let t = c.in_ok-analysis.ensures.ok in
    are_types c.args.source.now c.in_ok-analysis.analysis.rows c.in_ok-analysis.analysis.types c.in_ok-type_columns.field-0.items t.0 t.1.checked t.1.rows_are t.1.types_are c.in_ok-type_columns.ensures

pub returns-in_err-analysis-clause-stopped : goal.returns-in_err-analysis-clause-stopped
returns-in_err-analysis-clause-stopped g c =
    let text = c.args.source.now in
    let last = c.limits_come_last.ensures in
    passed_on text c.from_residual.result c.in_err-analysis.field-0.0 c.from_residual.ensures.1
    (λ none columns is. let h = types_only text columns is in none h.0 h.1)
    (unchecked text (c.one_verdict.ensures false text) (last.frame false text) (last.code false text) (last.accepted false text) c.in_err-analysis.field-0.0 c.in_err-analysis.ensures.refused)
