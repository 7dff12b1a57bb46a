-- Functions that words make: their values are states, and their composition is associative with the identity as its unit.
use Rattle.std.proofs.Common.{◌≡◌, ℕ, ◌<◌, List, [], length, get_or, All, sym, ap, subst, ◌∙◌, arith}
use Rattle.std.specs.Prelude.{slice_index}
use Rattle.std.proofs.lemmas.List.{get_or-map, length-map, ext_get_or}
use Rattle.std.proofs.lemmas.List.FromFn.{get_or-range_with_len}
use Rattle.state_monoid.specs.Automaton.{Automaton, IsAutomaton}
use Rattle.state_monoid.specs.Image.{compose, image, IsReached}
use Rattle.state_monoid.specs.Functions.{map_map, map_id, map_same}
use Rattle.state_monoid.specs.Words.{length-image, image_at, image_none, image_below}

pub compose_assoc : (f g h : List ℕ) → All (λ s. s < length g) f → compose (compose f g) h ≡ compose f (compose g h)
compose_assoc f g h all =
    map_map (slice_index h) (slice_index g) f
    ∙ map_same (λ s. slice_index h (slice_index g s)) (slice_index (compose g h)) f (λ k d b. sym (get_or-map (slice_index h) g _ 0 0 (all k d b)))

pub reached_length : (d : Automaton) (f : List ℕ) → IsReached d f → length f ≡ d.states
reached_length d f r = ap (λ (l : List ℕ). length l) (sym r.2) ∙ length-image d r.0

pub identity_right : (d : Automaton) (f : List ℕ) → All (λ s. s < d.states) f → compose f (image d []) ≡ f
identity_right d f below =
    map_same (slice_index (image d [])) (λ s. s) f
    (λ k e b. ap (λ (l : List ℕ). slice_index l (get_or f k e)) (image_none d) ∙ (get_or-range_with_len 0 d.states (get_or f k e) 0 (below k e b) ∙ (omega arith)))
    ∙ map_id f

pub identity_left : (d : Automaton) (f : List ℕ) → length f ≡ d.states → compose (image d []) f ≡ f
identity_left d f len =
    let count : length (compose (image d []) f) ≡ length f = length-map (image d []) (slice_index f) ∙ (length-image d [] ∙ sym len) in
    ext_get_or 0 (compose (image d []) f) f count
    (λ i h. get_or-map (slice_index f) (image d []) i 0 0 (let size = length-image d [] in omega arith) ∙ ap (slice_index f) (image_at d [] i 0 (omega arith)))

module _ (d : Automaton) (valid : IsAutomaton d) where
  pub reached_below : (f : List ℕ) → IsReached d f → All (λ s. s < d.states) f
  reached_below f r = subst (λ (l : List ℕ). All (λ s. s < d.states) l) r.2 (image_below d valid r.0 r.1)

  pub reached_assoc : (f g h : List ℕ) → IsReached d f → IsReached d g → compose (compose f g) h ≡ compose f (compose g h)
  reached_assoc f g h fr gr = compose_assoc f g h (subst (λ (n : ℕ). All (λ s. s < n) f) (sym (reached_length d g gr)) (reached_below f fr))

  pub reached_identity : (f : List ℕ) → IsReached d f → compose f (image d []) ≡ f
  reached_identity f fr = identity_right d f (reached_below f fr)

  pub identity_reached : (f : List ℕ) → IsReached d f → compose (image d []) f ≡ f
  identity_reached f fr = identity_left d f (reached_length d f fr)
