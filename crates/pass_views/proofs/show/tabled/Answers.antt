use Rattle.std.proofs.Common.{◌∙◌, IfErr, IfOk, ap, sym, subst}
use Rattle.text_columns.specs.Columns.{table_text}
use Rattle.pass_views.specs.Stopped.{AreNone}
use Rattle.pass_views.specs.Shown.{Arrays, Shows, one_shown}
use Rattle.pass_views.proofs.Showing.{passed_on, shown_of}
use Rattle.pass_views.proofs.show.tabled.Goals as goal

pub returns-clause-shown : goal.returns-clause-shown
returns-clause-shown c text = λ pass are.
    let of_pass : Arrays text pass c.in_ok-columns.columns.items = subst (λ r. IfOk r (λ columns. Arrays text pass columns.items)) c.in_ok-columns.was are in
    subst (Shows text pass) (sym (c.in_ok-table.ensures ∙ ap table_text c.deref.ensures.value)) (one_shown of_pass)

pub returns-in_err-columns-clause-stopped : goal.returns-in_err-columns-clause-stopped
returns-in_err-columns-clause-stopped c text = λ pass other none.
    let stops : AreNone text pass c.in_err-columns.field-0.0 = subst (λ r. IfErr r (AreNone text pass)) c.in_err-columns.was none in
    passed_on text c.from_residual.result c.in_err-columns.field-0.0 c.from_residual.ensures.1 (λ no table is. let h = shown_of pass table other is in no h.0 h.1) stops
