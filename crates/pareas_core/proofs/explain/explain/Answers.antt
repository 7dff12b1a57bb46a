use Rattle.std.proofs.Common.{◌∙◌, ap}
use Rattle.pareas_core.specs.Output.{done}
use Rattle.pareas_core.proofs.Meeting.{explains}
use Rattle.pareas_core.proofs.explain.explain.Goals as goal

pub returns : goal.returns
returns c = λ bytes. explains c.args.code bytes _ (c.written.ensures ∙ ap done c.in_ok-text.ensures)
