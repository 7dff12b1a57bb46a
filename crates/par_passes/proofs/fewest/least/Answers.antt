use Rattle.std.proofs.Common.{◌<◌, length, ap, ◌∙◌}
use Rattle.par_passes.specs.Least.{least_key}
use Rattle.par_passes.specs.Laws.Giving.{all_numbers}
use Rattle.par_passes.proofs.Lowest.{keys_by_place}
use Rattle.par_passes.specs.Laws.Together.{if_ok}
use Rattle.par_passes.proofs.fewest.least.Goals as goal

pub least_by_number-requires-clause-callable : goal.least_by_number-requires-clause-callable
least_by_number-requires-clause-callable g c = λ κs within. all_numbers (λ k. k < length c.args.keys.now) (length c.args.keys.now) (λ k less. less)

pub returns : goal.returns
returns g c = if_ok c.least_by_number.result c.least_by_number.ensures (λ m is. is ∙ ap least_key (keys_by_place c.args.keys.now))
