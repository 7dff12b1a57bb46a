use Rattle.std.proofs.Common.{sym, ap, subst, ◌∙◌}
use Rattle.elf_file.specs.Reading.{IsRefusal}
use Rattle.rv32_emul.specs.Machine.{started}
use Rattle.std.proofs.lemmas.Result.{IfOk-weaker}
use Rattle.pareas_core.specs.Output.{due_of_machine}
use Rattle.pareas_core.proofs.machine.emulate.Goals as goal

pub returns-in-Err-Fault : goal.returns-in-Err-Fault
returns-in-Err-Fault c =
    let refused = c.loaded_runs.ensures.none c.args.file.now c.in-Err-Fault.fault c.args.steps (subst (IsRefusal (started c.args.file.now)) c.in-Err-Fault.field-0-is c.in-Err-Fault.ensures) in
    let before = c.args.before.items in
    IfOk-weaker c.not_loaded.result _ _ (λ d h. h ∙ ap (due_of_machine before) (sym refused)) (c.not_loaded.ensures before)
