use Rattle.std.proofs.Common.{◌<◌, length}
use Rattle.par_passes.specs.Laws.Giving.{all_numbers}
use Rattle.pass_tests.proofs.callers.lowest_of.Goals as goal

pub least_of-requires-clause-callable : goal.least_of-requires-clause-callable
least_of-requires-clause-callable g c = λ κs within. all_numbers (λ k. k < length c.args.xs.now) (length c.args.xs.now) (λ k less. less)
