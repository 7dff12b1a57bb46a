use Rattle.par_passes.specs.Laws.Giving.{gives_maps}
use Rattle.par_passes.specs.Laws.Together.{if_ok}
use Rattle.par_passes.proofs.each.map.Given as given
use Rattle.par_passes.proofs.each.map.Goals as goal

pub returns-clause-values : goal.returns-clause-values
returns-clause-values g c = if_ok c.map_by_number.result c.map_by_number.ensures (λ v all. gives_maps (given.F-post g c.args.f.now) c.args.items.now v.items all)
