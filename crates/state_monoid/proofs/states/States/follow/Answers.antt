use Rattle.std.proofs.Common.{◌≡◌, ◌∙◌, ℕ, List, length, take, map, ap, arith}
use Rattle.std.proofs.lemmas.List.{length-map, length-take-le}
use Rattle.state_monoid.specs.Automaton.{step}
use Rattle.state_monoid.specs.Functions.{IsFunction-front}
use Rattle.state_monoid.proofs.states.States.follow.Goals as goal

pub invariant_of-self : goal.invariant_of-self
invariant_of-self c =
    let new : List ℕ = c.advance.new.ends in
    let old : List ℕ = take c.self.inside.states c.self.inside.ends in
    let value : new ≡ map (λ s. step c.args.dfa.now s c.args.byte) old = c.advance.ensures.value in
    let old_len : length old ≡ c.self.inside.states = length-take-le c.self.inside.states c.self.inside.ends (omega arith) in
    let len : length new ≡ c.self.inside.states = ap (λ (l : List ℕ). length l) value ∙ (length-map old (λ s. step c.args.dfa.now s c.args.byte) ∙ old_len) in
    let states : length old ≡ c.args.dfa.now.states = ap (λ (l : List ℕ). length l) c.self.view_is ∙ c.requires in
    (omega arith, IsFunction-front new _ c.self.inside.states c.args.dfa.now.states len (omega arith) c.advance.ensures.below)
