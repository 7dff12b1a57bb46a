use Rattle.std.proofs.Common.{ℕ, List, Option, subst, sym}
use Rattle.rv32_emul.specs.Fixed.{fixed}
use Rattle.rv32_emul.specs.Kept.{Kept, AreCode}
use Rattle.rv32_emul.proofs.machine.Machine.run.Goals as goal

pub run_steps-taken-requires-clause-code : goal.run_steps-taken-requires-clause-code
run_steps-taken-requires-clause-code c = subst (λ (ks : List Kept). AreCode ks (fixed c.self.inside.memory)) (sym c.deref.ensures.value) c.self.invariant.1

pub invariant_of-self : goal.invariant_of-self
invariant_of-self c =
    (c.run_steps-taken.ensures.aligned, subst (λ (f : ℕ → Option ℕ). AreCode c.self.inside.code.items f) (sym c.run_steps-taken.ensures.fixed) c.self.invariant.1)
