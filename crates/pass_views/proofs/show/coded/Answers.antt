use Rattle.std.proofs.Common.{false}
use Rattle.front_end.specs.Laws.Refused.{refused_by}
use Rattle.source_meaning.specs.Ast.{Program}
use Rattle.verdict.specs.Verdict.{Accepted, IsVerdict}
use Rattle.pass_views.specs.Stopped.{Stops}
use Rattle.back_end.specs.Laws.HandedOn.{handed_on}
use Rattle.pass_views.proofs.Showing.{unaccepted}
use Rattle.pass_views.proofs.show.coded.Goals as goal

pub returns-in_err-analysis-clause-stopped : goal.returns-in_err-analysis-clause-stopped
returns-in_err-analysis-clause-stopped g c =
    let text = c.args.source.now in
    handed_on (Stops ((p : Program) → ¬ IsVerdict false text (Accepted p)) text) c.from_residual.result c.in_err-analysis.field-0.0 c.from_residual.ensures.1
    (unaccepted text c.in_err-analysis.field-0.0 (c.one_verdict.ensures false text) (refused_by false text c.in_err-analysis.field-0.0 c.in_err-analysis.ensures.refused))
