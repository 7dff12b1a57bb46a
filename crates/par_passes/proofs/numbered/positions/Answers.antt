use Rattle.std.proofs.Common.{◌<◌, All, length}
use Rattle.par_passes.proofs.Choosing.{chosen_places}
use Rattle.par_passes.specs.Laws.Giving.{all_numbers}
use Rattle.par_passes.specs.Laws.Together.{if_ok}
use Rattle.par_passes.proofs.numbered.positions.Given as given
use Rattle.par_passes.proofs.numbered.positions.Goals as goal

pub choose-requires-clause-callable : goal.choose-requires-clause-callable
choose-requires-clause-callable g c = λ κs within. all_numbers (λ k. (k < length c.args.items.now) × All (given.F-pre g c.args.f.now) c.args.items.now) (length c.args.items.now) (λ k less. (less, c.requires.callable))

pub returns : goal.returns
returns g c = if_ok c.choose.result c.choose.ensures (λ v chosen h computes. chosen_places (given.F-post g c.args.f.now) c.args.items.now h computes v.items chosen)
