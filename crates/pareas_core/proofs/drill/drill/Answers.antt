use Rattle.std.proofs.Common.{◌≡◌, ◌∙◌, ap, subst, List, ℕ, false}
use Rattle.std.proofs.lemmas.Result.{IfOk-weaker}
use Rattle.drill_source.specs.Drill.{drill_text}
use Rattle.rv32_emul.specs.Machine.{machine}
use Rattle.front_end.specs.Front.{IsRefusedBy}
use Rattle.pareas_core.specs.Headline.{CompilesTo}
use Rattle.pareas_core.specs.Responses.{IsToldOf}
use Rattle.pareas_core.specs.Output.{due_of_machine, drill_lines, drill_steps}
use Rattle.pareas_core.proofs.Meeting.{by_drill, drilled_through, refused, running}
use Rattle.pareas_core.proofs.drill.drill.Goals as goal

pub returns-in-Ok : goal.returns-in-Ok
returns-in-Ok g c = λ bytes.
    let text = drill_text c.args.seed c.args.functions in
    let file = c.in-Ok.made.file.items in
    let compiled : CompilesTo false text file = subst (λ t. CompilesTo false t file) (c.deref.ensures.value ∙ c.in_ok-text.ensures) c.in-Ok.ensures.image in
    let lines : c.in_ok-lines-in-Ok.lines.items ≡ drill_lines text file =
    c.in_ok-lines-in-Ok.ensures ∙ ap (λ t. drill_lines t file) (c.deref-in-Ok.ensures.value ∙ c.in_ok-text.ensures) in
    IfOk-weaker c.emulate.result _ _
    (λ d h. drilled_through c.args.seed c.args.functions bytes file d compiled (c.one_verdict.ensures false text)
    (h ∙ (λ i. due_of_machine (lines i) (machine (c.deref-in-Ok-2.ensures.value i) (c.steps.ensures i)))))
    c.emulate.ensures

pub returns : goal.returns
returns g c = λ bytes.
    let text = drill_text c.args.seed c.args.functions in
    let verdict : IsRefusedBy false text c.in-Err.refusal =
    subst (λ (t : List ℕ). IsRefusedBy false t c.in-Err.refusal) (c.deref.ensures.value ∙ c.in_ok-text.ensures) c.in-Err.ensures.refused in
    IfOk-weaker c.refused.result _ _
    (λ d line. refused _ false bytes text (running (drill_lines text) drill_steps) (by_drill c.args.seed c.args.functions bytes) (c.one_verdict.ensures false text) c.in-Err.refusal d verdict
    (subst (λ (t : List ℕ). IsToldOf t c.in-Err.refusal d) (c.deref-in-Err.ensures.value ∙ c.in_ok-text.ensures) line))
    c.refused.ensures
