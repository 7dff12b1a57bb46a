use Rattle.std.proofs.lemmas.Result.{IfOk-weaker}
use Rattle.pareas_core.proofs.Meeting.{by_build, compiled, refused, written}
use Rattle.pareas_core.proofs.response.build.Goals as goal

pub returns-in-Ok : goal.returns-in-Ok
returns-in-Ok g c =
    compiled c.args.fold c.args.source.now c.in-Ok.file.items c.new.result.items c.in-Ok.ensures.image (c.one_verdict.ensures c.args.fold c.args.source.now) c.new.ensures.items

pub returns-in-Err : goal.returns-in-Err
returns-in-Err g c =
    let text = c.args.source.now in
    IfOk-weaker c.refused.result _ _
    (λ d line. refused _ c.args.fold text text written (by_build c.args.fold text) (c.one_verdict.ensures c.args.fold text) c.in-Err.refusal d c.in-Err.ensures.refused line)
    c.refused.ensures
