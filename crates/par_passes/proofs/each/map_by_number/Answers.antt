use Rattle.std.proofs.Common.{◌<◌, All, length}
use Rattle.par_passes.specs.Laws.Giving.{all_numbers, gives_by_number}
use Rattle.par_passes.specs.Laws.Together.{if_ok}
use Rattle.par_passes.proofs.each.map_by_number.Given as given
use Rattle.par_passes.proofs.each.map_by_number.Goals as goal

pub fill_by_number-requires-clause-callable : goal.fill_by_number-requires-clause-callable
fill_by_number-requires-clause-callable g c = λ κs within. all_numbers (λ k. (k < length c.args.items.now) × All (given.F-pre g c.args.f.now) c.args.items.now) (length c.args.items.now) (λ k less. (less, c.requires.callable))

pub returns : goal.returns
returns g c = if_ok c.fill_by_number.result c.fill_by_number.ensures (λ v all. gives_by_number (given.F-post g c.args.f.now) c.args.items.now v.items all)
