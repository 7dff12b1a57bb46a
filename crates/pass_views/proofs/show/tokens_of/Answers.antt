use Rattle.pass_views.specs.Stopped.{Stops}
use Rattle.pass_views.specs.Shown.{IsLexed}
use Rattle.back_end.specs.Laws.HandedOn.{handed_on}
use Rattle.pass_views.proofs.Showing.{stopped_call, told_size}
use Rattle.pass_views.proofs.show.tokens_of.Goals as goal

pub returns-in_err-check_size-clause-stopped : goal.returns-in_err-check_size-clause-stopped
returns-in_err-check_size-clause-stopped g c =
    let text = c.args.source.now in
    handed_on (Stops (¬ IsLexed text) text) c.from_residual.result c.in_err-check_size.field-0.0 c.from_residual.ensures.1
    (told_size text c.in_err-check_size.field-0.0 c.in_err-check_size.ensures.refused c.in_err-check_size.ensures.large (λ none is. none is.fits))

pub returns-clause-stopped : goal.returns-clause-stopped
returns-clause-stopped g c = stopped_call c.args.source.now c.lexed.result c.lexed.ensures.refused c.lexed.ensures.faulty (λ none is. none is.lexical)
