use Rattle.std.proofs.Common.{◌≡◌, ◌∙◌, take, arith, subst, sym}
use Rattle.std.proofs.lemmas.List.{length-set}
use Rattle.std.specs.List.{range_with_len}
use Rattle.state_monoid.specs.Image.{IsFunction}
use Rattle.state_monoid.specs.Functions.{range_written, IsFunction-range}
use Rattle.state_monoid.proofs.states.States.identity.Goals as goal

pub loop-state-preserved : goal.loop-state-preserved
loop-state-preserved c = (
  length-set c.loop-state.ends c.loop-state.state c.loop-state.state ∙ c.loop-state.invariant.0,
  range_written c.loop-state.ends c.loop-state.state (omega arith) c.loop-state.invariant.1,
)

pub invariant_of-result : goal.invariant_of-result
invariant_of-result c =
    let done : c.loop-state.state ≡ c.states-states.result = omega arith in
    let filled : take c.states-states.result c.loop-state.ends ≡ range_with_len 0 c.states-states.result = rw done at c.loop-state.invariant.1 in
    (omega arith, subst IsFunction (sym filled) (IsFunction-range c.states-states.result))
