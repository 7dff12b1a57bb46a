-- The functions of single bytes.
use Rattle.std.specs.Prelude.{◌≡◌, ℕ, ◌<◌, ◌≤◌, List, [], ◌∷◌, length, Some, slice_get, slice_index, All}
use Rattle.state_monoid.specs.Automaton.{Automaton, IsAutomaton}
use Rattle.state_monoid.specs.Image.{image}

-- some byte makes this function
abbrev pub IsLetter : Automaton → List ℕ → Type 0
IsLetter d f = (b : ℕ) × (b < 256) × (image d (b ∷ []) ≡ f)

-- the functions of the first n bytes, and the place of each byte's
pub record AreLetters (d : Automaton) (n : ℕ) (letters : List (List ℕ)) (of_byte : List ℕ) : Type 0 where
  pub valid : IsAutomaton d
  pub some_byte : All (IsLetter d) letters
  pub few : length letters ≤ n
  pub one_for_each : length of_byte ≡ n
  pub each_byte : (b : ℕ) → b < n → slice_get letters (slice_index of_byte b) ≡ Some (image d (b ∷ []))
