use Rattle.std.proofs.Common.{[], sym, ap, subst, ◌∙◌}
use Rattle.std.proofs.lemmas.Result.{IfOk-weaker}
use Rattle.elf_file.specs.Reading.{IsRefusal}
use Rattle.elf_text.specs.Listing.{dumped}
use Rattle.pareas_core.specs.Output.{due_of_dump}
use Rattle.pareas_core.proofs.Meeting.{dumps}
use Rattle.pareas_core.proofs.listing.dump.Goals as goal

pub returns-in-Ok : goal.returns-in-Ok
returns-in-Ok c = dumps c.args.file.now _ (c.written.ensures ∙ ap due_of_dump (sym c.in-Ok.ensures))

pub returns-in-Err-Fault : goal.returns-in-Err-Fault
returns-in-Err-Fault c =
    let refused = subst (IsRefusal (dumped c.args.file.now)) c.in-Err-Fault.field-0-is c.in-Err-Fault.ensures in
    IfOk-weaker c.not_loaded.result _ _ (λ d h. dumps c.args.file.now d (h ∙ ap due_of_dump (sym refused))) (c.not_loaded.ensures [])
