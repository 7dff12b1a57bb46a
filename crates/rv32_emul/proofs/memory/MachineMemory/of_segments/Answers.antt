use Rattle.std.proofs.Common.{◌≡◌, ℕ, List, map, length, ap, subst, sym, ◌∙◌}
use Rattle.rv_isa.specs.Memory.{Region}
use Rattle.rv32_emul.specs.Machine.{region_of, empty_stack}
use Rattle.rv32_emul.specs.Stretches.{stretches, AreApart}
use Rattle.rv32_emul.proofs.Beside.{whole, segments-apart}
use Rattle.rv32_emul.proofs.Loading.{stack_long}
use Rattle.rv32_emul.proofs.memory.MachineMemory.of_segments.Goals as goal

pub of_segments-requires : goal.of_segments-requires
of_segments-requires c = segments-apart (map region_of c.args.segments.items) empty_stack c.requires

pub invariant_of-result : goal.invariant_of-result
invariant_of-result c =
    let same : whole c.in_ok-segments.segments.value c.in_ok-stack.stack.items ≡ whole (map region_of c.args.segments.items) empty_stack = λ i. whole ((c.in_ok-segments.ensures.ok ∙ c.in_ok-regions.ensures) i) (c.in_ok-stack.ensures i) in
    (subst (λ (rs : List Region). AreApart (stretches rs)) (sym same) c.requires, ap (λ (bytes : List ℕ). length bytes) c.in_ok-stack.ensures ∙ stack_long)
