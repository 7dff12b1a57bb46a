use Rattle.std.proofs.Common.{◌≡◌, length, take}
use Rattle.state_monoid.specs.Image.{compose}
use Rattle.state_monoid.proofs.states.States.then.Given as goal

abbrev pub invariant-loop-state : goal.invariant-loop-state
invariant-loop-state l = (length l.ends ≡ 64) × (take l.state l.ends ≡ compose (take l.state l.self-inside.ends) (take l.next-inside.states l.next-inside.ends))
