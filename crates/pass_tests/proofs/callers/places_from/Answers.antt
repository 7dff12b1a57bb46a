use Rattle.std.proofs.Common.{rules, leb, ◌∙◌}
use Rattle.par_passes.specs.Laws.Calling.{if_ok, places_by}
use Rattle.pass_tests.proofs.callers.places_from.Goals as goal

pub returns : goal.returns
returns g c = if_ok c.positions.result c.positions.ensures (λ v found. found (λ x. leb c.args.low x) (search rules) ∙ places_by (λ x. leb c.args.low x) c.args.xs.now 0)
