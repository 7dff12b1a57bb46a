use Rattle.std.proofs.Common.{◌∙◌, ap, false}
use Rattle.std.proofs.lemmas.Result.{IfOk-weaker}
use Rattle.pareas_core.specs.Output.{done}
use Rattle.pareas_core.proofs.Meeting.{shows, shows_none}
use Rattle.pareas_core.proofs.show.show.Goals as goal

pub returns-in-Ok : goal.returns-in-Ok
returns-in-Ok g c =
    let text = c.args.source.now in
    shows c.args.pass text (c.views_are_one.ensures.tables text c.args.pass) c.in-Ok.text.items _ c.in-Ok.ensures.shown c.written.ensures

pub returns-in-Err : goal.returns-in-Err
returns-in-Err g c =
    let text = c.args.source.now in
    IfOk-weaker c.refused.result _ _
    (λ d line. shows_none c.args.pass text (c.one_verdict.ensures false text) c.in-Err.refusal d c.in-Err.ensures.stopped line) c.refused.ensures
