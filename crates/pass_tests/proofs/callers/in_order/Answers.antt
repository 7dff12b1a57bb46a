use Rattle.par_passes.specs.Laws.Calling.{if_ok}
use Rattle.pass_tests.proofs.callers.in_order.Goals as goal

pub returns : goal.returns
returns g c = if_ok c.gather.result c.gather.ensures (λ v all. all 0)
