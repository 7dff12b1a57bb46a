use Rattle.std.proofs.Common.{◌∙◌, ◌<◌, ◌^◌, arith}
use Rattle.std.specs.List.{range_with_len}
use Rattle.std.proofs.lemmas.List.FromFn.{length-range_with_len}
use Rattle.par_passes.specs.Laws.Together.{if_ok}
use Rattle.par_passes.specs.Laws.Giving.{all_numbers, each_number, gives_maps}
use Rattle.par_passes.proofs.numbered.tabulate.Given as given
use Rattle.par_passes.proofs.numbered.tabulate.Goals as goal

pub fill_by_number-requires-clause-callable : goal.fill_by_number-requires-clause-callable
fill_by_number-requires-clause-callable g c = λ κs within.
    all_numbers (λ k. (k < 2 ^ 32) × given.F-pre g c.args.f.now k) c.args.count (λ k less. (omega (arith, c.ranges.count.fits), each_number (given.F-pre g c.args.f.now) c.args.count c.requires.callable k less))

pub returns-clause-len : goal.returns-clause-len
returns-clause-len g c = if_ok c.fill_by_number.result c.fill_by_number.ensures (λ v all. all.as_many ∙ length-range_with_len 0 c.args.count)

pub returns-clause-values : goal.returns-clause-values
returns-clause-values g c = if_ok c.fill_by_number.result c.fill_by_number.ensures (λ v all. gives_maps (given.F-post g c.args.f.now) (range_with_len 0 c.args.count) v.items all)
