use Rattle.std.proofs.Common.{◌∙◌}
use Rattle.par_passes.specs.Laws.Calling.{if_ok}
use Rattle.kin_pass.proofs.Summed.{mark_is_item, owners_summed}
use Rattle.kin_pass.proofs.function_rows.owners.Goals as goal

pub scan_lifted-requires-clause-accepted : goal.scan_lifted-requires-clause-accepted
scan_lifted-requires-clause-accepted g c κs within = λ i d lt. mark_is_item _

pub returns : goal.returns
returns g c = if_ok c.scan_lifted.result c.scan_lifted.ensures (λ v is. is ∙ owners_summed c.args.kinds.now c.requires.few)
