use Rattle.std.proofs.Common.{List, subst, sym, ◌∙◌}
use Rattle.std.specs.Prelude.{IfOk}
use Rattle.std.proofs.lemmas.Result.{IfOk-weaker}
use Rattle.rv_isa.specs.Memory.{Region}
use Rattle.rv32_emul.specs.Stretches.{stretches, AreApart}
use Rattle.rv32_emul.specs.Fixed.{fixed}
use Rattle.rv32_emul.specs.Kept.{AreCode}
use Rattle.rv32_emul.proofs.Codes.{all-code}
use Rattle.rv32_emul.proofs.regions.Regions.code.Goals as goal

pub returns : goal.returns
returns c =
    let apart : AreApart (stretches c.deref.result.now) = subst (λ (rs : List Region). AreApart (stretches rs)) (sym c.deref.ensures.value) c.self.invariant.0 in
    subst (λ (rs : List Region). IfOk c.code_of.result (λ v. AreCode v.items (fixed rs))) (c.deref.ensures.value ∙ c.self.view_is)
    (IfOk-weaker c.code_of.result _ _ (λ v h. all-code v.items c.deref.result.now apart h) c.code_of.ensures)
