-- The states to which the bytes of a stretch lead.
use Rattle.std.proofs.Common.{◌≡◌, ℕ, suc, ◌+◌, ◌-◌, ◌<◌, ◌≤◌, arith, List, [], ◌∷◌, length, take, drop, get_or, sym, ap, ◌∙◌, subst, take-add}
use Rattle.std.specs.Prelude.{slice_index}
use Rattle.std.proofs.lemmas.List.{length-drop, length-take-le, take-take, take_more}
use Rattle.std.proofs.lemmas.List.Elements.{All-take, All-drop}
use Rattle.state_monoid.specs.Automaton.{Automaton, run, step}
use Rattle.state_monoid.specs.Numbering.{Numbering, function_of}
use Rattle.state_monoid.specs.Words.{run_append}
use Rattle.par_lexer.specs.Table.{lexer}
use Rattle.par_lexer.specs.Places.{state_before, next_begin}
use Rattle.par_lexer.specs.Known.{number_of_bytes, IsConstant, LeadsOver}
use Rattle.par_lexer.specs.Stretches.{LeadsTo}
use Rattle.par_lexer.proofs.Running.{Bytes, step_is}
use Rattle.par_lexer.proofs.Beginning.{before_below, next_byte, state_behind}
use Rattle.par_lexer.proofs.Numbered.{number_leads}

-- this many bytes more
run_on : (text : List ℕ) (from count : ℕ) → run lexer (state_before text from) (take count (drop from text)) ≡ state_before text (from + count)
run_on text from count = sym (run_append lexer 0 (take from text) (take count (drop from text))) ∙ ap (run lexer 0) (sym (take-add from count text))

-- the bytes of a stretch
pub run_between : (text : List ℕ) (from to : ℕ) → from ≤ to → run lexer (state_before text from) (take (to - from) (drop from text)) ≡ state_before text to
run_between text from to up = let end : from + (to - from) ≡ to = omega arith in run_on text from (to - from) ∙ ap (state_before text) end

-- one byte more
pub state_more : (d : Automaton) → d ≡ lexer → (bytes : List ℕ) (s i behind next : ℕ) → i < length bytes → behind ≡ run lexer s (take i bytes) → next ≡ step d behind (get_or bytes i 0) → next ≡ run lexer s (take (i + 1) bytes)
state_more d e bytes s i behind next inside so_far led =
    led ∙ ((λ k. step (e k) (so_far k) (get_or bytes i 0)) ∙ sym (ap (run lexer s) (take_more bytes i 0 inside) ∙ run_append lexer s (take i bytes) (get_or bytes i 0 ∷ [])))

module _ (text : List ℕ) (bytes : Bytes text) where
  -- a stretch from a known state on
  pub leads_from : (from to state : ℕ) → from ≤ to → state ≡ state_before text from → LeadsTo text to from state
  leads_from from to state up is = record {
    within = up;
    below = subst (λ s. s < 16) (sym is) (before_below text bytes from);
    leads = ap (λ s. run lexer s (take (to - from) (drop from text))) is ∙ run_between text from to up;
  }

  -- behind the first byte of a piece nothing before it counts
  pub leads_begun : (start to none : ℕ) → start < to → to ≤ length text → next_begin text start ≡ start → none ≡ 0 → LeadsTo text to start none
  leads_begun start to none inside within begun is =
      let n : ℕ = to - (start + 1) in
      let here : ℕ = get_or text start 0 in
      let rest : List ℕ = drop (start + 1) text in
      let less : start < length text = omega arith in
      let more : to - start ≡ suc n = omega arith in
      let first : step lexer 0 here ≡ state_before text (start + 1) = step_is 0 here (omega arith) (bytes start 0 less) ∙ sym (state_behind text bytes start less begun) in
      record {
        within = omega arith;
        below = omega (arith, is);
        leads = (λ i. run lexer (is i) (take (more i) (next_byte text start less i)))
            ∙ (ap (λ s. run lexer s (take n rest)) first ∙ run_between text (start + 1) to (omega arith));
      }

  module _ (m : Numbering) (automaton : m.automaton ≡ lexer) (from to : ℕ) (up : from ≤ to) (within : to ≤ length text) (count number : ℕ) where
    abbrev stretch : List ℕ
    stretch = take (to - from) (drop from text)

    length_is : length stretch ≡ to - from
    length_is = let n = length-drop from text in length-take-le (to - from) (drop from text) (omega arith)

    front_leads : count ≤ length stretch → number ≡ number_of_bytes m (take count stretch) → slice_index (function_of m number) (state_before text from) ≡ state_before text (from + count)
    front_leads few is =
        let front : take count stretch ≡ take count (drop from text) = take-take count (to - from) (drop from text) (omega (arith, few, length_is)) in
        let word : number ≡ number_of_bytes m (take count (drop from text)) = is ∙ ap (number_of_bytes m) front in
        ap (λ k. slice_index (function_of m k) (state_before text from)) word
        ∙ (number_leads m (take count (drop from text)) (All-take (λ b. b < 256) count (drop from text) (All-drop (λ b. b < 256) from text bytes)) automaton (state_before text from) (before_below text bytes from)
        ∙ run_on text from count)

    -- a constant function leads to the state whatever was before
    pub constant_leads : count ≤ length stretch → number ≡ number_of_bytes m (take count stretch) → IsConstant m number → (state none : ℕ) → none ≡ 0 → state ≡ slice_index (function_of m number) none
        → (from ≤ from + count) × (from + count ≤ to) × (state ≡ state_before text (from + count))
    constant_leads few is constant state none zero led = (
      omega arith,
      omega (arith, few, length_is),
      led ∙ (ap (slice_index (function_of m number)) zero ∙ (sym (constant (state_before text from) (before_below text bytes from)) ∙ front_leads few is)),
    )

    -- the function of the whole stretch
    pub stretch_leads : count ≡ length stretch → number ≡ number_of_bytes m (take count stretch) → number < length m.functions → LeadsOver m text from to number
    stretch_leads whole is below =
        let end : from + count ≡ to = omega (arith, whole, length_is) in
        record { below = below; leads = front_leads (omega arith) is ∙ ap (state_before text) end }
