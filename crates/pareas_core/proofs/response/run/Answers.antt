use Rattle.std.proofs.Common.{◌∙◌}
use Rattle.std.proofs.lemmas.Result.{IfOk-weaker}
use Rattle.rv32_emul.specs.Machine.{machine}
use Rattle.pareas_core.specs.Output.{due_of_machine}
use Rattle.pareas_core.proofs.Meeting.{by_run, no_lines, ran_through, refused, running}
use Rattle.pareas_core.proofs.response.run.Goals as goal

pub returns-in-Ok : goal.returns-in-Ok
returns-in-Ok g c =
    IfOk-weaker c.emulate.result _ _
    (λ d h. ran_through c.args.steps c.args.fold c.args.source.now c.in-Ok.file.items d c.in-Ok.ensures.image (c.one_verdict.ensures c.args.fold c.args.source.now)
    (h ∙ (λ i. due_of_machine (c.new.ensures.items i) (machine (c.deref.ensures.value i) c.args.steps))))
    c.emulate.ensures

pub returns-in-Err : goal.returns-in-Err
returns-in-Err g c =
    let text = c.args.source.now in
    IfOk-weaker c.refused.result _ _
    (λ d line. refused _ c.args.fold text text (running no_lines c.args.steps) (by_run c.args.steps c.args.fold text) (c.one_verdict.ensures c.args.fold text) c.in-Err.refusal d c.in-Err.ensures.refused line)
    c.refused.ensures
