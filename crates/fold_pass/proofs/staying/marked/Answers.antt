use Rattle.std.proofs.Common.{◌∙◌, false, rules}
use Rattle.par_passes.specs.Laws.Calling.{if_ok, places_by}
use Rattle.fold_pass.proofs.staying.marked.Goals as goal

pub returns : goal.returns
returns g c = if_ok c.positions.result c.positions.ensures (λ v found. found (λ b. b) (search rules) ∙ places_by (λ b. b) c.args.marks.now false)
