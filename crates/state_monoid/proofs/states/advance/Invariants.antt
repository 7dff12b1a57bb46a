use Rattle.std.proofs.Common.{◌≡◌, ◌<◌, ◌++◌, All, take, drop, map}
use Rattle.state_monoid.specs.Automaton.{step}
use Rattle.state_monoid.proofs.states.advance.Given as goal

abbrev pub invariant-loop-end : goal.invariant-loop-end
invariant-loop-end l = record {
  done : l.ends ≡ map (λ s. step l.dfa s l.byte) (take l.end-index l.fn.ends) ++ drop l.end-index l.fn.ends;
  below : All (λ s. s < l.dfa.states) l.ends;
}
