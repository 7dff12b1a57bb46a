use Rattle.std.proofs.Common.{◌∙◌, rules}
use Rattle.par_passes.specs.Laws.Calling.{if_ok, places_by}
use Rattle.pointer_jumping.specs.Jumps.{is_open}
use Rattle.pointer_jumping.specs.declared.jump.Jump.TheVariants.{Root}
use Rattle.pointer_jumping.proofs.rounds.open_nodes.Goals as goal

pub returns : goal.returns
returns g c = if_ok c.positions.result c.positions.ensures (λ v found. found is_open (search rules) ∙ places_by is_open c.args.jumps.now Root)
