use Rattle.command_line.specs.declared.command.Pass.TheVariants.{States}
use Rattle.pass_views.specs.Stopped.{AreNone}
use Rattle.back_end.specs.Laws.HandedOn.{handed_on}
use Rattle.pass_views.proofs.Showing.{are_states, states_only, told_size}
use Rattle.pass_views.proofs.show.state_arrays.Goals as goal

pub returns-clause-shown : goal.returns-clause-shown
returns-clause-shown g c = are_states c.args.source.now c.in_ok-arrays_of_states.field-0.items c.in_ok-check_size.ensures.fits c.in_ok-arrays_of_states.ensures

pub returns-in_err-check_size-clause-stopped : goal.returns-in_err-check_size-clause-stopped
returns-in_err-check_size-clause-stopped g c =
    let text = c.args.source.now in
    handed_on (AreNone text States) c.from_residual.result c.in_err-check_size.field-0.0 c.from_residual.ensures.1
    (told_size text c.in_err-check_size.field-0.0 c.in_err-check_size.ensures.refused c.in_err-check_size.ensures.large (λ none columns is. none (states_only text columns is).0))
