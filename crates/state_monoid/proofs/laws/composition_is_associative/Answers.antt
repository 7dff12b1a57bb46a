use Rattle.std.proofs.Common.{ℕ, All, ◌<◌, subst}
use Rattle.state_monoid.specs.Reached.{compose_assoc, identity_left, identity_right}
use Rattle.state_monoid.proofs.laws.composition_is_associative.Goals as goal

pub returns-clause-associative : goal.returns-clause-associative
returns-clause-associative c f g h function same = compose_assoc f g h (subst (λ (n : ℕ). All (λ s. s < n) f) same function)

pub returns-clause-left : goal.returns-clause-left
returns-clause-left c d f len = identity_left d f len

pub returns-clause-right : goal.returns-clause-right
returns-clause-right c d f function len = identity_right d f (subst (λ (n : ℕ). All (λ s. s < n) f) len function)
