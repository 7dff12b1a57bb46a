use Rattle.std.proofs.Common.{◌<◌, ◌^◌, arith}
use Rattle.par_passes.specs.Laws.Giving.{all_numbers, each_number}
use Rattle.par_passes.proofs.numbered.numbers_where.Given as given
use Rattle.par_passes.proofs.numbered.numbers_where.Goals as goal

pub choose-requires-clause-callable : goal.choose-requires-clause-callable
choose-requires-clause-callable g c = λ κs within.
    all_numbers (λ k. (k < 2 ^ 32) × given.F-pre g c.args.f.now k) c.args.count (λ k less. (omega (arith, c.ranges.count.fits), each_number (given.F-pre g c.args.f.now) c.args.count c.requires.callable k less))
