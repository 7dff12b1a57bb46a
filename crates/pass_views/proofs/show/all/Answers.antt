use Rattle.std.proofs.Common.{sym, subst}
use Rattle.command_line.specs.declared.command.Pass.TheVariants.{All}
use Rattle.pass_views.specs.Shown.{Shows, all_shown}
use Rattle.pass_views.proofs.Showing.{all_only, passed_on, rows_only}
use Rattle.pass_views.proofs.show.all.Goals as goal

pub inner_arrays-requires : goal.inner_arrays-requires
inner_arrays-requires g c =
    let t = c.in_ok-tokens.ensures.shaped in
    record { lexed = c.in_ok-tokens.ensures.lexed; parsed = (t.0, t.1.tree) }

pub returns-clause-shown : goal.returns-clause-shown
returns-clause-shown g c =
    let inner = c.in_ok-inner.ensures in
    subst (Shows c.args.source.now All) (sym c.in_ok-joined.ensures) (all_shown _ (c.in_ok-arrays.ensures.ok _ _ inner.states inner.pairs))

pub returns-in_err-tokens-clause-stopped : goal.returns-in_err-tokens-clause-stopped
returns-in_err-tokens-clause-stopped g c =
    let text = c.args.source.now in
    passed_on text c.from_residual.result c.in_err-tokens.field-0.0 c.from_residual.ensures.1
    (λ none table is. let h = all_only table is in let rows = rows_only text h.0.of_rows h.1.rows_are in none rows.0 rows.1) c.in_err-tokens.ensures.stopped

pub returns-in_err-arrays-clause-stopped : goal.returns-in_err-arrays-clause-stopped
returns-in_err-arrays-clause-stopped g c =
    passed_on c.args.source.now c.from_residual-in_err-arrays.result c.in_err-arrays.field-0.0 c.from_residual-in_err-arrays.ensures.1
    (λ none table is. let h = all_only table is in none h.0 h.1) c.in_err-arrays.ensures.stopped
