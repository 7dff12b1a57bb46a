use Rattle.std.proofs.Common.{◌∙◌, ap, false}
use Rattle.std.proofs.lemmas.Result.{IfOk-weaker}
use Rattle.pareas_core.proofs.Meeting.{pages, pages_none}
use Rattle.pareas_core.proofs.show.page.Goals as goal

pub returns-in-Ok : goal.returns-in-Ok
returns-in-Ok g c =
    let text = c.args.source.now in
    pages text (c.views_are_one.ensures.page text) c.in-Ok.text.items _ c.in-Ok.ensures.paged c.written.ensures

pub returns-in-Err : goal.returns-in-Err
returns-in-Err g c =
    let text = c.args.source.now in
    IfOk-weaker c.refused.result _ _
    (λ d line. pages_none text (c.one_verdict.ensures false text) c.in-Err.stop d c.in-Err.ensures.stopped line) c.refused.ensures
