use Rattle.std.proofs.Common.{sym, subst, ap, ◌∙◌, IfOk}
use Rattle.std.proofs.lemmas.Result.{IfOk-weaker}
use Rattle.rv32_emul.specs.Machine.{machine}
use Rattle.pareas_core.specs.Output.{due_of_machine}
use Rattle.pareas_core.specs.Responses.{IsResponse}
use Rattle.pareas_core.proofs.Meeting.{emulates}
use Rattle.pareas_core.proofs.response.respond.Goals as goal

pub returns-in-Emu : goal.returns-in-Emu
returns-in-Emu g c =
    subst (λ k. IfOk c.emulate.result (λ d. IsResponse k c.args.bytes.now d)) (sym c.in-Emu.is)
    (IfOk-weaker c.emulate.result _ _
    (λ d h. emulates c.in-Emu.steps c.args.bytes.now d (h ∙ ap (λ lines. due_of_machine lines (machine c.args.bytes.now c.in-Emu.steps)) c.new.ensures.items))
    c.emulate.ensures)

pub returns-in-Drill : goal.returns-in-Drill
returns-in-Drill g c =
    subst (λ k. IfOk c.drill.result (λ d. IsResponse k c.args.bytes.now d)) (sym c.in-Drill.is) (c.drill.ensures c.args.bytes.now)

pub returns-in-Explain : goal.returns-in-Explain
returns-in-Explain g c =
    subst (λ k. IfOk c.explain.result (λ d. IsResponse k c.args.bytes.now d)) (sym c.in-Explain.is) (c.explain.ensures c.args.bytes.now)
