-- Runs of an automaton along words, and the functions that words make.
use Rattle.std.proofs.Common.{◌≡◌, ℕ, ◌+◌, ◌*◌, ◌<◌, List, [], ◌∷◌, ◌++◌, length, get_or, take, map, All, refl, sym, ap, subst, ◌∙◌, arith}
use Rattle.std.specs.List.{range_with_len}
use Rattle.std.specs.Prelude.{slice_index}
use Rattle.std.proofs.lemmas.List.{take_more}
use Rattle.std.proofs.lemmas.List.FromFn.{length-map-range_with_len, get_or-map-range_with_len, get_or-range_with_len, length-range_with_len}
use Rattle.word_monoid.specs.Laws.Folds.{all_first, all_rest}
use Rattle.state_monoid.specs.Automaton.{Automaton, IsAutomaton, IsWord, step, run}
use Rattle.state_monoid.specs.Image.{IsFunction, compose, image}
use Rattle.state_monoid.specs.Functions.{map_map, map_id, map_same, all_map}

module _ (d : Automaton) where
  pub run_append : (s : ℕ) (u v : List ℕ) → run d s (u ++ v) ≡ run d (run d s u) v
  run_append s [] v = refl
  run_append s (b ∷ u) v = run_append (step d s b) u v

  pub length-image : (word : List ℕ) → length (image d word) ≡ d.states
  length-image word = length-map-range_with_len (λ s. run d s word) 0 d.states

  pub image_at : (word : List ℕ) (s k : ℕ) → s < d.states → get_or (image d word) s k ≡ run d s word
  image_at word s k h = get_or-map-range_with_len (λ s. run d s word) 0 d.states s s k h (omega arith)

  pub image_none : image d [] ≡ range_with_len 0 d.states
  image_none = map_id (range_with_len 0 d.states)

  pub image_last : (word : List ℕ) (b : ℕ) → image d (word ++ b ∷ []) ≡ map (λ s. step d s b) (image d word)
  image_last word b =
      (λ i. map (λ s. run_append s word (b ∷ []) i) (range_with_len 0 d.states))
      ∙ sym (map_map (λ s. step d s b) (λ s. run d s word) (range_with_len 0 d.states))

  pub image_next : (word : List ℕ) (i : ℕ) → i < length word → image d (take (i + 1) word) ≡ map (λ s. step d s (get_or word i 0)) (image d (take i word))
  image_next word i h = ap (image d) (take_more word i 0 h) ∙ image_last (take i word) (get_or word i 0)

  module _ (valid : IsAutomaton d) where
    pub step_below : (s b : ℕ) → s < d.states → b < 256 → step d s b < d.states
    step_below s b h k = let len = valid.one_for_each in valid.closed (256 * s + b) 0 (omega arith)

    pub run_below : (s : ℕ) (word : List ℕ) → s < d.states → IsWord word → run d s word < d.states
    run_below s [] h w = h
    run_below s (b ∷ word) h w = run_below (step d s b) word (step_below s b h (all_first (λ b. b < 256) b word w)) (all_rest (λ b. b < 256) b word w)

    states_below : All (λ s. s < d.states) (range_with_len 0 d.states)
    states_below k e h =
        let len : length (range_with_len 0 d.states) ≡ d.states = length-range_with_len 0 d.states in
        let at : get_or (range_with_len 0 d.states) k e ≡ 0 + k = get_or-range_with_len 0 d.states k e (omega (arith, len, h)) in
        omega (arith, at, len, h)

    pub image_below : (word : List ℕ) → IsWord word → All (λ s. s < d.states) (image d word)
    image_below word w = all_map (λ s. s < d.states) (λ s. run d s word) (λ s. s < d.states) (λ s h. run_below s word h w) (range_with_len 0 d.states) states_below

    pub image_function : (word : List ℕ) → IsWord word → IsFunction (image d word)
    image_function word w = let len : length (image d word) ≡ d.states = length-image word in subst (λ (n : ℕ). All (λ s. s < n) (image d word)) (sym len) (image_below word w)

    -- the image of one word behind another
    pub image_append : (u v : List ℕ) → IsWord u → image d (u ++ v) ≡ compose (image d u) (image d v)
    image_append u v w =
        map_same (λ s. run d s (u ++ v)) (λ s. slice_index (image d v) (run d s u)) (range_with_len 0 d.states)
        (λ k e h. run_append _ u v ∙ sym (image_at v (run d _ u) 0 (run_below _ u (states_below k e h) w)))
        ∙ sym (map_map (slice_index (image d v)) (λ s. run d s u) (range_with_len 0 d.states))
