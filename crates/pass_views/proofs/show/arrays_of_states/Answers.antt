use Rattle.std.proofs.Common.{◌∙◌, ap}
use Rattle.std.proofs.lemmas.Result.{IfOk-weaker}
use Rattle.pass_tables.specs.Tables.{state_columns}
use Rattle.pass_views.proofs.show.arrays_of_states.Goals as goal

pub returns : goal.returns
returns c = IfOk-weaker c.state_columns.result _ _ (λ columns is. is ∙ ap (λ d. state_columns d c.args.source.now) c.in_ok-automaton.ensures) c.state_columns.ensures
