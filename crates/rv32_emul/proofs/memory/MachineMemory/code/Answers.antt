use Rattle.std.proofs.Common.{List, subst}
use Rattle.std.specs.Prelude.{IfOk}
use Rattle.std.proofs.lemmas.Result.{IfOk-weaker}
use Rattle.rv_isa.specs.Memory.{Region}
use Rattle.rv32_emul.specs.Fixed.{fixed}
use Rattle.rv32_emul.specs.Kept.{AreCode}
use Rattle.rv32_emul.proofs.Beside.{segments-code}
use Rattle.rv32_emul.proofs.memory.MachineMemory.code.Goals as goal

pub returns : goal.returns
returns c =
    subst (λ (rs : List Region). IfOk c.code.result (λ v. AreCode v.items (fixed rs))) c.self.view_is
    (IfOk-weaker c.code.result _ _ (λ v h. segments-code v.items c.self.inside.segments.value c.self.inside.stack.items h) (subst (λ (rs : List Region). IfOk c.code.result (λ v. AreCode v.items (fixed rs))) c.deref.ensures c.code.ensures))
