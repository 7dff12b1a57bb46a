use Rattle.std.proofs.Common.{leb, length, ap, ◌∙◌}
use Rattle.std.proofs.lemmas.List.{length-map}
use Rattle.par_passes.specs.Passes.{marked}
use Rattle.par_passes.specs.Laws.Calling.{if_ok, marked_by}
use Rattle.pass_tests.proofs.callers.at_least.Goals as goal

pub compact-requires-clause-marks : goal.compact-requires-clause-marks
compact-requires-clause-marks g c κs within =
    ap length (c.as_slice.ensures.value ∙ c.in_ok-marks.ensures) ∙ length-map c.args.xs.now (λ x. leb c.args.low x)

pub returns : goal.returns
returns g c = if_ok c.compact.result c.compact.ensures (λ v kept.
    kept ∙ (ap (marked c.args.xs.now) (c.as_slice.ensures.value ∙ c.in_ok-marks.ensures) ∙ marked_by (λ x. leb c.args.low x) c.args.xs.now))
