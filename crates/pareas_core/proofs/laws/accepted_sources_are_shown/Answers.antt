use Rattle.std.proofs.Common.{false}
use Rattle.pareas_core.proofs.Meeting.{accepted_shown, accepted_paged}
use Rattle.pareas_core.proofs.laws.accepted_sources_are_shown.Goals as goal

pub returns : goal.returns
returns c = record {
  tables = λ pass source p d is due. accepted_shown pass source (c.one_verdict.ensures false source) p d is due;
  page = λ source p d is due. accepted_paged source (c.one_verdict.ensures false source) p d is due;
}
