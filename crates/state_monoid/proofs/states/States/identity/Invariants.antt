use Rattle.std.proofs.Common.{◌≡◌, length, take}
use Rattle.std.specs.List.{range_with_len}
use Rattle.state_monoid.proofs.states.States.identity.Given as goal

abbrev pub invariant-loop-state : goal.invariant-loop-state
invariant-loop-state l = (length l.ends ≡ 64) × (take l.state l.ends ≡ range_with_len 0 l.state)
