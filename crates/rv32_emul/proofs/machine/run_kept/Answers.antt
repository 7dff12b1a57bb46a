use Rattle.std.proofs.Common.{◌≡◌, ℕ, Some, sym, subst, refl, ◌∙◌, arith, Result}
use Rattle.std.specs.Prelude.{option_map}
use Rattle.rv_isa.specs.declared.hart.Step.TheVariants.{Went}
use Rattle.rv_isa.specs.Memory.{fetched}
use Rattle.rv_isa.specs.Encoding.{decoded}
use Rattle.rv_isa.specs.Effect.{State, Ending, Answers, state}
use Rattle.rv32_emul.proofs.Taken.{kept-step, kept-prints, taken-more, continues-quiet, continues-last, continues-any}
use Rattle.rv32_emul.proofs.Unchanged.{effect-fixed, step-fixed}
use Rattle.rv32_emul.proofs.machine.run_kept.Goals as goal

pub loop-left-preserved : goal.loop-left-preserved
loop-left-preserved c =
    let here : State = state c.loop-left.hart c.loop-left.memory in
    let there : State = state c.execute.new.hart c.execute.new.memory in
    let at_pc : option_map decoded (fetched c.loop-left.memory c.loop-left.hart.pc) ≡ Some (Some c.in-Some.instruction) =
    subst (λ (a : ℕ). option_map decoded (fetched c.loop-left.memory a) ≡ Some (Some c.in-Some.instruction)) c.pc.ensures c.in-Some.ensures.0 in
    record {
      aligned = c.execute.ensures.aligned;
      fits = omega (arith, c.loop-left-test.true, c.loop-left.invariant.fits);
      so_far = taken-more c.args.steps c.loop-left.left (state c.args.start c.args.memory.now) here there c.loop-left-test.true c.loop-left.invariant.fits c.loop-left.invariant.so_far
          (kept-step c.in-Some.instruction here at_pc ∙ c.in-Went.ensures.effect)
          (kept-prints c.in-Some.instruction here at_pc ∙ sym c.in-Went.ensures.prints);
      stays = effect-fixed c.in-Some.instruction here there c.execute.result c.execute.ensures.effect ∙ c.loop-left.invariant.stays;
    }

pub returns-in_default : goal.returns-in_default
returns-in_default c =
    let here : State = state c.loop-left.hart c.loop-left.memory in
    let there : State = state c.execute.new.hart c.execute.new.memory in
    let at_pc : option_map decoded (fetched c.loop-left.memory c.loop-left.hart.pc) ≡ Some (Some c.in-Some.instruction) =
    subst (λ (a : ℕ). option_map decoded (fetched c.loop-left.memory a) ≡ Some (Some c.in-Some.instruction)) c.pc.ensures c.in-Some.ensures.0 in
    record {
      took = continues-last c.args.steps c.loop-left.left (state c.args.start c.args.memory.now) here there c.execute.result c.loop-left-test.true c.loop-left.invariant.fits c.loop-left.invariant.so_far
          (subst (λ (r : Result State Ending). Answers r here c.execute.result there) (sym (kept-step c.in-Some.instruction here at_pc)) c.execute.ensures.effect)
          (c.execute.ensures.prints ∙ sym (kept-prints c.in-Some.instruction here at_pc)) c.in_default.not-Went;
      fewer = omega (arith, c.loop-left-test.true, c.loop-left.invariant.fits);
      aligned = c.execute.ensures.aligned;
      fixed = effect-fixed c.in-Some.instruction here there c.execute.result c.execute.ensures.effect ∙ c.loop-left.invariant.stays;
    }

pub returns-in-None-clause-took : goal.returns-in-None-clause-took
returns-in-None-clause-took c =
    continues-any c.args.steps c.loop-left.left (state c.args.start c.args.memory.now) (state c.loop-left.hart c.loop-left.memory) (state c.step-answer.new.hart c.step-answer.new.memory) c.step-answer.result
    c.loop-left-test.true c.loop-left.invariant.fits c.loop-left.invariant.so_far c.step-answer.ensures.steps c.step-answer.ensures.prints

pub returns-in-None-clause-fixed : goal.returns-in-None-clause-fixed
returns-in-None-clause-fixed c =
    step-fixed (state c.loop-left.hart c.loop-left.memory) (state c.step-answer.new.hart c.step-answer.new.memory) c.step-answer.result c.step-answer.ensures.steps ∙ c.loop-left.invariant.stays

pub returns-clause-took : goal.returns-clause-took
returns-clause-took c = continues-quiet Went c.args.steps c.loop-left.left (state c.args.start c.args.memory.now) (state c.loop-left.hart c.loop-left.memory) refl c.loop-left.invariant.fits c.loop-left.invariant.so_far
