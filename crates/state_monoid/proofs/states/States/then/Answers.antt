use Rattle.std.proofs.Common.{◌≡◌, ◌∙◌, length, take, ap, arith, subst, sym}
use Rattle.std.proofs.lemmas.List.{length-set, length-take-le}
use Rattle.state_monoid.specs.Image.{IsFunction, compose}
use Rattle.state_monoid.specs.Functions.{composed_written, IsFunction-compose}
use Rattle.state_monoid.proofs.states.States.then.Goals as goal

pub loop-state-preserved : goal.loop-state-preserved
loop-state-preserved c = (
  length-set c.loop-state.ends c.loop-state.state _ ∙ c.loop-state.invariant.0,
  composed_written c.loop-state.ends c.self.inside.ends c.next.inside.ends c.self.inside.states c.next.inside.states c.loop-state.state
      (omega arith) c.loop-state-test.true (length-take-le c.self.inside.states c.self.inside.ends (omega arith))
      (ap length c.self.view_is ∙ (c.requires ∙ sym (ap length c.next.view_is))) c.self.invariant.1 c.loop-state.invariant.1,
)

pub invariant_of-result : goal.invariant_of-result
invariant_of-result c =
    let done : c.loop-state.state ≡ c.self.inside.states = omega arith in
    let filled : take c.self.inside.states c.loop-state.ends ≡ compose (take c.self.inside.states c.self.inside.ends) (take c.next.inside.states c.next.inside.ends) = rw done at c.loop-state.invariant.1 in
    let same : length (take c.self.inside.states c.self.inside.ends) ≡ length (take c.next.inside.states c.next.inside.ends) = ap length c.self.view_is ∙ (c.requires ∙ sym (ap length c.next.view_is)) in
    (omega arith, subst IsFunction (sym filled) (IsFunction-compose _ _ same c.self.invariant.1 c.next.invariant.1))
