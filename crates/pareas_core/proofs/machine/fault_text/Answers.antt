use Rattle.std.proofs.Common.{ap, ◌∙◌, ◌++◌, ◌∷◌, [], codes}
use Rattle.std.proofs.lemmas.Result.{IfOk-weaker}
use Rattle.pareas_core.specs.Output.{kind_name, hexadecimal}
use Rattle.pareas_core.proofs.FaultLine.{eight_digits, left_nested}
use Rattle.pareas_core.proofs.machine.fault_text.Goals as goal

pub returns : goal.returns
returns c =
    let shown = eight_digits c.in_radix.result c.laid_out.result c.args.at c.in_radix.ensures c.laid_out.ensures in
    let nested = left_nested (kind_name c.args.kind) (codes " at 0x") (hexadecimal c.args.at) (10 ∷ []) in
    IfOk-weaker c.format.result _ _ (λ s h. (rw (shown, c.name_of-name.ensures) at h) ∙ ap (λ text. codes "fault " ++ text) nested) c.format.ensures.ok
