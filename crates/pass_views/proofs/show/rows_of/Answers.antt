use Rattle.source_meaning.specs.Grammar.{Tree, Prog}
use Rattle.pass_views.specs.Stopped.{Stops}
use Rattle.pass_views.specs.Shown.{IsShaped}
use Rattle.back_end.specs.Laws.HandedOn.{handed_on}
use Rattle.pass_views.proofs.Showing.{passed_on, stopped}
use Rattle.pass_views.proofs.show.rows_of.Goals as goal

pub returns-in_err-tokens-clause-stopped : goal.returns-in_err-tokens-clause-stopped
returns-in_err-tokens-clause-stopped g c =
    passed_on c.args.source.now c.from_residual.result c.in_err-tokens.field-0.0 c.from_residual.ensures.1 (λ none t is. none t is.parsed) c.in_err-tokens.ensures.stopped

pub returns-in_err-rows-clause-stopped : goal.returns-in_err-rows-clause-stopped
returns-in_err-rows-clause-stopped g c =
    let text = c.args.source.now in
    handed_on (Stops ((t : Tree Prog) → ¬ IsShaped text t) text) c.from_residual-in_err-rows.result c.in_err-rows.field-0.0 c.from_residual-in_err-rows.ensures.1
    (stopped text c.in_err-rows.field-0.0 c.in_err-rows.ensures.refused c.in_err-rows.ensures.faulty (λ none t is. none t is.parsed.tree is.shaped))
