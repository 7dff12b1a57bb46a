use Rattle.std.proofs.Common.{◌≡◌, ◌-◌, ℕ, List, Some, None, true, false, length, refl, ap, subst, sym, ◌∙◌}
use Rattle.std.specs.Prelude.{MatchOption}
use Rattle.rv_isa.specs.Memory.{Region, has, stored, overwritten, bytes_of}
use Rattle.elf_file.specs.Load.{stack_start}
use Rattle.rv32_emul.specs.Machine.{stack_of}
use Rattle.rv32_emul.specs.Stretches.{stretches, AreApart}
use Rattle.rv32_emul.proofs.Apart.{written-long}
use Rattle.rv32_emul.proofs.Beside.{whole, stack-stored, segments-stored, stretches-stay, some-bytes}
use Rattle.rv32_emul.proofs.memory.MachineMemoryMemory.store.Goals as goal

pub invariant_of-self : goal.invariant_of-self
invariant_of-self c =
    let xs : List Region = c.self.inside.segments.value in
    let stack : List ℕ = c.self.inside.stack.items in
    let new : List ℕ = c.put_in.new.stack.items in
    let here : has (stack_of stack) c.args.address c.args.size ≡ true = c.in-Some.ensures.holds stack c.self.invariant.1 in
    let written : new ≡ overwritten stack (c.args.address - stack_start) (bytes_of c.args.size c.args.value) = c.put_in.ensures ∙ ap (λ (o : ℕ). overwritten stack o (bytes_of c.args.size c.args.value)) c.in-Some.ensures.inside.0 in
    let long : length new ≡ length stack = ap (λ (b : List ℕ). length b) written ∙ written-long (stack_of stack) c.args.address c.args.size c.args.value here in
    (subst (λ (ss : List (ℕ × ℕ)). AreApart ss) (sym (stretches-stay xs xs stack new refl long)) c.self.invariant.0, long ∙ c.self.invariant.1)

pub returns-in-Some-clause-denied : goal.returns-in-Some-clause-denied
returns-in-Some-clause-denied c =
    let xs : List Region = c.self.inside.segments.value in
    let stack : List ℕ = c.self.inside.stack.items in
    let new : List ℕ = c.put_in.new.stack.items in
    let here : has (stack_of stack) c.args.address c.args.size ≡ true = c.in-Some.ensures.holds stack c.self.invariant.1 in
    let written : new ≡ overwritten stack (c.args.address - stack_start) (bytes_of c.args.size c.args.value) = c.put_in.ensures ∙ ap (λ (o : ℕ). overwritten stack o (bytes_of c.args.size c.args.value)) c.in-Some.ensures.inside.0 in
    ap (λ (rs : List Region). stored rs c.args.address c.args.size c.args.value) (sym c.self.view_is)
    ∙ stack-stored xs stack new c.args.address c.args.size c.args.value c.self.invariant.0 (some-bytes c.args.address c.args.size c.requires) here written

pub invariant_of-self-2 : goal.invariant_of-self-2
invariant_of-self-2 c =
    let stack : List ℕ = c.self.inside.stack.items in
    (subst (λ (ss : List (ℕ × ℕ)). AreApart ss) (sym (stretches-stay c.self.inside.segments.value c.put.new.self stack stack (c.put.ensures.stretches ∙ ap (λ (rs : List Region). stretches rs) c.deref_mut.ensures.value) refl)) c.self.invariant.0, c.self.invariant.1)

pub returns-clause-denied : goal.returns-clause-denied
returns-clause-denied c =
    let xs : List Region = c.self.inside.segments.value in
    let stack : List ℕ = c.self.inside.stack.items in
    let away : has (stack_of stack) c.args.address c.args.size ≡ false = c.in_default.ensures.holds stack c.self.invariant.1 in
    subst (λ (rs : List Region). MatchOption c.put.result (stored rs c.args.address c.args.size c.args.value ≡ None) (λ _. stored rs c.args.address c.args.size c.args.value ≡ Some (whole c.put.new.self stack))) c.self.view_is
    (segments-stored c.put.result xs c.put.new.self stack c.args.address c.args.size c.args.value away
    (subst (λ (rs : List Region). MatchOption c.put.result (stored rs c.args.address c.args.size c.args.value ≡ None) (λ _. stored rs c.args.address c.args.size c.args.value ≡ Some c.put.new.self)) c.deref_mut.ensures.value c.put.ensures.stored))
