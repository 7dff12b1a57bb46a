use Rattle.std.proofs.Common.{ap, ◌∙◌}
use Rattle.depth_rules.specs.Segments.{segments}
use Rattle.depth_rules.specs.Lawful.{row_accepted}
use Rattle.rv_regs.proofs.stretches.row_segment.Goals as goal

pub returns-clause-item : goal.returns-clause-item
returns-clause-item c = ap segments.accepts c.segment.ensures ∙ row_accepted c.kind.result c.number.result
