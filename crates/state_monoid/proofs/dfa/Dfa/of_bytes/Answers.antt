use Rattle.std.proofs.Common.{◌≡◌, ◌∙◌, List, ℕ, take, length, map, get_or, ap, sym}
use Rattle.state_monoid.specs.Image.{image}
use Rattle.state_monoid.specs.Automaton.{step}
use Rattle.state_monoid.specs.Words.{length-image, image_next}
use Rattle.state_monoid.proofs.dfa.Dfa.of_bytes.Goals as goal

pub follow-requires : goal.follow-requires
follow-requires c =
    let done : c.loop-byte.image ≡ image c.args.self.now (take c.loop-byte.byte-index c.args.bytes.now) = c.loop-byte.invariant in
    ap (λ (l : List ℕ). length l) done ∙ length-image c.args.self.now (take c.loop-byte.byte-index c.args.bytes.now)

pub loop-byte-preserved : goal.loop-byte-preserved
loop-byte-preserved c =
    let word : List ℕ = c.args.bytes.now in
    let i : ℕ = c.loop-byte.byte-index in
    let done : c.loop-byte.image ≡ image c.args.self.now (take i word) = c.loop-byte.invariant in
    let more : c.follow.new.self ≡ map (λ s. step c.args.self.now s (get_or word i 0)) c.loop-byte.image = c.follow.ensures in
    more ∙ (ap (map (λ s. step c.args.self.now s (get_or word i 0))) done ∙ sym (image_next c.args.self.now word i c.loop-byte-test.true))
