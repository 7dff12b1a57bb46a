use Rattle.std.proofs.Common.{◌≡◌, inl, inr, Err, sym, ap, ◌∙◌}
use Rattle.std.proofs.lemmas.Result.{IfOk-weaker}
use Rattle.elf_text.specs.Listing.{file_of_text}
use Rattle.pareas_core.specs.Output.{due_of_asm}
use Rattle.pareas_core.proofs.Meeting.{assembles}
use Rattle.pareas_core.proofs.listing.asm.Goals as goal

pub returns-in-Ok : goal.returns-in-Ok
returns-in-Ok c = assembles c.args.text.now _ (c.written.ensures ∙ ap due_of_asm (sym c.in-Ok.ensures.file))

pub returns-in-Err-2 : goal.returns-in-Err-2
returns-in-Err-2 c =
    let is : file_of_text c.args.text.now ≡ Err c.in-Err.fault = elim c.in-Err.ensures.fault [ inl none ↦ absurd (c.ran_out.ensures.no_other c.if-ran_out.false none) | inr is ↦ is ] in
    IfOk-weaker c.bad_asm.result _ _ (λ d same. assembles c.args.text.now d (same ∙ ap due_of_asm (sym is))) c.bad_asm.ensures
