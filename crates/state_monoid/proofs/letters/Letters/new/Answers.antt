use Rattle.std.proofs.Common.{◌≡◌, ◌∙◌, ◌++◌, ◌+◌, List, ℕ, [], ◌∷◌, ap, sym, subst, arith}
use Rattle.state_monoid.specs.Automaton.{Automaton}
use Rattle.state_monoid.specs.Image.{image}
use Rattle.state_monoid.specs.Letters.{AreLetters}
use Rattle.state_monoid.proofs.Exploration.{letters_step}
use Rattle.state_monoid.proofs.letters.Letters.new.Goals as goal

pub loop-byte-preserved : goal.loop-byte-preserved
loop-byte-preserved c =
    let n : ℕ = c.loop-byte.byte in
    let is : c.of_bytes.result ≡ image c.args.dfa.now (n ∷ []) = c.of_bytes.ensures ∙ ap (λ (d : Automaton). image d (n ∷ [])) c.in_ok-dfa.ensures.same in
    let pushed : c.push.new.self.items ≡ c.loop-byte.of_byte.items ++ c.in_ok-letter.letter ∷ [] = c.in_ok-push.ensures.items in
    let stored = c.in_ok-letter.ensures.stored in
    subst (λ (l : List ℕ). AreLetters c.args.dfa.now (n + 1) c.insert_full.new.self.keys l) (sym pushed)
    (letters_step c.args.dfa.now n c.loop-byte.functions.keys c.loop-byte.of_byte.items c.insert_full.new.self.keys c.in_ok-letter.letter c.of_bytes.result stored.0
    c.loop-byte.invariant (omega arith) is c.in_ok-letter.ensures.keys stored.1 stored.2)

pub returns-clause-letters : goal.returns-clause-letters
returns-clause-letters c =
    let done : c.loop-byte.byte ≡ 256 = omega arith in
    let all : AreLetters c.args.dfa.now 256 c.loop-byte.functions.keys c.loop-byte.of_byte.items = rw done at c.loop-byte.invariant in
    subst (λ (d : Automaton). AreLetters d 256 c.loop-byte.functions.keys c.loop-byte.of_byte.items) (sym c.in_ok-dfa.ensures.same) all
