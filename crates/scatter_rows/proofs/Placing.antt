-- There is one list at most in which each place holds its value, and every other cell 0.
use Rattle.std.proofs.Common.{◌≡◌, ◌≢◌, ◌⊎◌, ℕ, zero, suc, ◌<◌, List, [], ◌∷◌, length, get_or, ⊎_elim, arith, inl, inr}
use mathlib.Core.Logic.{dite}
use native.Mathlib.Decide.{ℕ_discrete}
use Rattle.scatter_rows.specs.Scattered.{IsFree}

free_of_more : (p : ℕ) (ps : List ℕ) (c : ℕ) → p ≢ c → IsFree ps c → IsFree (p ∷ ps) c
free_of_more p ps c ne free zero h = ne
free_of_more p ps c ne free (suc i) h = free i (omega arith)

-- a cell is some place, or none
place_or_free : (places : List ℕ) (c : ℕ) → ((i : ℕ) × (i < length places) × (get_or places i 0 ≡ c)) ⊎ IsFree places c
place_or_free [] c = inr (λ i h. absurd (omega arith))
place_or_free (p ∷ ps) c = dite (ℕ_discrete p c)
    (λ e. inl (0, omega arith, e))
    (λ ne. ⊎_elim
    (λ (t : (i : ℕ) × (i < length ps) × (get_or ps i 0 ≡ c)). inl (suc t.0, omega (arith, t.1), t.2))
    (λ (free : IsFree ps c). inr (free_of_more p ps c ne free))
    (place_or_free ps c))
