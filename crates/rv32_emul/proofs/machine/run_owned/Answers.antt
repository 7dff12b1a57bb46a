use Rattle.std.proofs.Common.{◌≡◌, ◌%◌, ◌≤◌, ℕ, Option, Some, refl, sym, subst, ◌∙◌, arith, Result}
use Rattle.std.specs.Prelude.{option_map}
use Rattle.rv_isa.specs.declared.hart.Step.TheVariants.{Went}
use Rattle.rv_isa.specs.Memory.{fetched}
use Rattle.rv_isa.specs.Encoding.{decoded, InRange}
use Rattle.rv_isa.specs.Effect.{State, Ending, Answers, state}
use Rattle.rv32_emul.specs.Fixed.{fixed}
use Rattle.rv32_emul.specs.Kept.{IsCode}
use Rattle.rv32_emul.proofs.Codes.{code-at}
use Rattle.rv32_emul.proofs.Taken.{kept-step, kept-prints, taken-more, continues-quiet, continues-last}
use Rattle.rv32_emul.proofs.Unchanged.{effect-fixed}
use Rattle.rv32_emul.proofs.machine.run_owned.Goals as goal

pub returns-then-pc-base-clause-took : goal.returns-then-pc-base-clause-took
returns-then-pc-base-clause-took c = continues-quiet Went c.args.steps c.loop-left.left (state c.args.start c.args.memory) (state c.loop-left.hart c.loop-left.memory) refl c.loop-left.invariant.fits c.loop-left.invariant.so_far

pub returns-then-index-code-clause-took : goal.returns-then-index-code-clause-took
returns-then-index-code-clause-took c = continues-quiet Went c.args.steps c.loop-left.left (state c.args.start c.args.memory) (state c.loop-left.hart c.loop-left.memory) refl c.loop-left.invariant.fits c.loop-left.invariant.so_far

pub loop-left-preserved : goal.loop-left-preserved
loop-left-preserved c =
    let here : State = state c.loop-left.hart c.loop-left.memory in
    let there : State = state c.execute.new.hart c.execute.new.memory in
    let code : IsCode (record { start = c.args.base; instructions = c.args.code.now }) (fixed c.loop-left.memory) =
    subst (λ (f : ℕ → Option ℕ). IsCode (record { start = c.args.base; instructions = c.args.code.now }) f) (sym c.loop-left.invariant.stays) c.requires.code in
    let pc : ℕ = c.pc-in-loop-left.result in
    let pc_is : pc ≡ c.loop-left.hart.pc = c.pc-in-loop-left.ensures in
    let even : pc % 4 ≡ 0 = subst (λ (a : ℕ). a % 4 ≡ 0) (sym pc_is) c.loop-left.invariant.aligned in
    let late : c.args.base ≤ pc = subst (λ (a : ℕ). c.args.base ≤ a) (c.pc.ensures ∙ sym pc_is) c.if-pc-base.false in
    let at_pc : (option_map decoded (fetched c.loop-left.memory c.loop-left.hart.pc) ≡ Some (Some c.in-Some.instruction)) × InRange c.in-Some.instruction =
    subst (λ (a : ℕ). (option_map decoded (fetched c.loop-left.memory a) ≡ Some (Some c.in-Some.instruction)) × InRange c.in-Some.instruction) pc_is
    (code-at c.args.base c.args.code.now c.loop-left.memory pc c.in-Some.instruction code even late c.if-index-code.false c.in-Some.is) in
    record {
      aligned = c.execute.ensures.aligned;
      fits = omega (arith, c.loop-left-test.true, c.loop-left.invariant.fits);
      so_far = taken-more c.args.steps c.loop-left.left (state c.args.start c.args.memory) here there c.loop-left-test.true c.loop-left.invariant.fits c.loop-left.invariant.so_far
          (kept-step c.in-Some.instruction here at_pc.0 ∙ c.in-Went.ensures.effect)
          (kept-prints c.in-Some.instruction here at_pc.0 ∙ sym c.in-Went.ensures.prints);
      stays = effect-fixed c.in-Some.instruction here there c.execute.result c.execute.ensures.effect ∙ c.loop-left.invariant.stays;
    }

pub returns-in_default : goal.returns-in_default
returns-in_default c =
    let here : State = state c.loop-left.hart c.loop-left.memory in
    let there : State = state c.execute.new.hart c.execute.new.memory in
    let code : IsCode (record { start = c.args.base; instructions = c.args.code.now }) (fixed c.loop-left.memory) =
    subst (λ (f : ℕ → Option ℕ). IsCode (record { start = c.args.base; instructions = c.args.code.now }) f) (sym c.loop-left.invariant.stays) c.requires.code in
    let pc : ℕ = c.pc-in-loop-left.result in
    let pc_is : pc ≡ c.loop-left.hart.pc = c.pc-in-loop-left.ensures in
    let even : pc % 4 ≡ 0 = subst (λ (a : ℕ). a % 4 ≡ 0) (sym pc_is) c.loop-left.invariant.aligned in
    let late : c.args.base ≤ pc = subst (λ (a : ℕ). c.args.base ≤ a) (c.pc.ensures ∙ sym pc_is) c.if-pc-base.false in
    let at_pc : (option_map decoded (fetched c.loop-left.memory c.loop-left.hart.pc) ≡ Some (Some c.in-Some.instruction)) × InRange c.in-Some.instruction =
    subst (λ (a : ℕ). (option_map decoded (fetched c.loop-left.memory a) ≡ Some (Some c.in-Some.instruction)) × InRange c.in-Some.instruction) pc_is
    (code-at c.args.base c.args.code.now c.loop-left.memory pc c.in-Some.instruction code even late c.if-index-code.false c.in-Some.is) in
    record {
      took = continues-last c.args.steps c.loop-left.left (state c.args.start c.args.memory) here there c.execute.result c.loop-left-test.true c.loop-left.invariant.fits c.loop-left.invariant.so_far
          (subst (λ (r : Result State Ending). Answers r here c.execute.result there) (sym (kept-step c.in-Some.instruction here at_pc.0)) c.execute.ensures.effect)
          (c.execute.ensures.prints ∙ sym (kept-prints c.in-Some.instruction here at_pc.0)) c.in_default.not-Went;
      fits = omega (arith, c.loop-left-test.true, c.loop-left.invariant.fits);
      aligned = c.execute.ensures.aligned;
      fixed = effect-fixed c.in-Some.instruction here there c.execute.result c.execute.ensures.effect ∙ c.loop-left.invariant.stays;
    }

pub returns-in-None-clause-took : goal.returns-in-None-clause-took
returns-in-None-clause-took c = continues-quiet Went c.args.steps c.loop-left.left (state c.args.start c.args.memory) (state c.loop-left.hart c.loop-left.memory) refl c.loop-left.invariant.fits c.loop-left.invariant.so_far

pub returns-clause-took : goal.returns-clause-took
returns-clause-took c = continues-quiet Went c.args.steps c.loop-left.left (state c.args.start c.args.memory) (state c.loop-left.hart c.loop-left.memory) refl c.loop-left.invariant.fits c.loop-left.invariant.so_far
