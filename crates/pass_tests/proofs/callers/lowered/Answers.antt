use Rattle.std.proofs.Common.{◌≤◌}
use Rattle.par_passes.specs.Laws.Calling.{if_ok}
use Rattle.par_passes.specs.Laws.Giving.{gives_weaker}
use Rattle.pass_tests.proofs.callers.lowered.Goals as goal

pub returns : goal.returns
returns g c = if_ok c.map.result c.map.ensures.each (λ v each. gives_weaker _ (λ x r. r ≤ x) c.args.xs.now v.items (λ x r gave. gave) each)
