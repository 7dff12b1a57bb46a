use Rattle.std.proofs.Common.{◌≡◌, ◌∙◌, ◌<◌, length, arith}
use Rattle.std.proofs.lemmas.List.Elements.{All-set}
use Rattle.state_monoid.specs.Automaton.{step}
use Rattle.state_monoid.specs.Functions.{mapped_more, mapped_all}
use Rattle.state_monoid.proofs.states.advance.Goals as goal

pub after-requires : goal.after-requires
after-requires c = c.loop-end.invariant.below c.loop-end.end-index 0 (omega arith)

pub loop-end-preserved : goal.loop-end-preserved
loop-end-preserved c = record {
  done = mapped_more (λ s. step c.args.dfa.now s c.args.byte) c.args.ends.now c.loop-end.ends c.loop-end.end-index c.after.result
      c.loop-end-test.true c.loop-end.invariant.done c.after.ensures.value;
  below = All-set (λ s. s < c.args.dfa.now.states) c.loop-end.ends c.loop-end.end-index c.after.result c.after.ensures.within c.loop-end.invariant.below;
}

pub returns-clause-value : goal.returns-clause-value
returns-clause-value c =
    let done : c.loop-end.end-index ≡ length c.args.ends.now = omega arith in
    rw done at c.loop-end.invariant.done ∙ mapped_all (λ s. step c.args.dfa.now s c.args.byte) c.args.ends.now
