use Rattle.back_end.specs.Laws.HandedOn.{handed_on}
use Rattle.front_end.specs.Front.{IsRefusedBy}
use Rattle.front_end.specs.Laws.Refused.{refused_by}
use Rattle.pareas_core.proofs.compiler.compile_counting.Goals as goal

pub returns-in_err-analysis-clause-refused : goal.returns-in_err-analysis-clause-refused
returns-in_err-analysis-clause-refused g c =
    handed_on (IsRefusedBy c.args.fold c.args.source.now) c.from_residual.result c.in_err-analysis.field-0.0 c.from_residual.ensures.1
    (refused_by c.args.fold c.args.source.now c.in_err-analysis.field-0.0 c.in_err-analysis.ensures.refused)
