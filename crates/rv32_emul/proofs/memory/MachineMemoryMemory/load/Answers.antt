use Rattle.std.proofs.Common.{◌≡◌, ◌-◌, ℕ, List, Some, true, false, take, drop, ap, sym, ◌∙◌}
use Rattle.rv_isa.specs.Memory.{Region, has, number_of, loaded}
use Rattle.elf_file.specs.Load.{stack_start}
use Rattle.rv32_emul.specs.Machine.{stack_of}
use Rattle.rv32_emul.proofs.Beside.{stack-loaded, segments-loaded, some-bytes}
use Rattle.rv32_emul.proofs.memory.MachineMemoryMemory.load.Goals as goal

pub returns-in-Some-clause-loaded : goal.returns-in-Some-clause-loaded
returns-in-Some-clause-loaded c =
    let xs : List Region = c.self.inside.segments.value in
    let stack : List ℕ = c.self.inside.stack.items in
    let a : ℕ = c.args.address in
    let n : ℕ = c.args.size in
    let here : has (stack_of stack) a n ≡ true = c.in-Some.ensures.holds stack c.self.invariant.1 in
    let bytes : c.deref.result.now ≡ stack = c.deref.ensures.value in
    let number : c.read_number.result ≡ number_of (take n (drop (a - stack_start) stack)) = c.read_number.ensures.number ∙ (λ i. number_of (take n (drop (c.in-Some.ensures.inside.0 i) (bytes i)))) in
    ap (λ (m : ℕ). Some m) number ∙ (sym (stack-loaded xs stack a n c.self.invariant.0 (some-bytes a n c.requires) here) ∙ ap (λ (rs : List Region). loaded rs a n) c.self.view_is)

pub returns-in-None-clause-loaded : goal.returns-in-None-clause-loaded
returns-in-None-clause-loaded c =
    let xs : List Region = c.self.inside.segments.value in
    let stack : List ℕ = c.self.inside.stack.items in
    let away : has (stack_of stack) c.args.address c.args.size ≡ false = c.in-None.ensures.holds stack c.self.invariant.1 in
    c.number.ensures.number ∙ (ap (λ (rs : List Region). loaded rs c.args.address c.args.size) c.deref-in-None.ensures ∙ (sym (segments-loaded xs stack c.args.address c.args.size away) ∙ ap (λ (rs : List Region). loaded rs c.args.address c.args.size) c.self.view_is))
