-- A deterministic automaton over the bytes: its transition function, extended to words.
use Rattle.std.specs.Prelude.{◌≡◌, ℕ, ◌+◌, ◌*◌, ◌<◌, ◌≤◌, List, [], ◌∷◌, length, All, slice_index}

-- for each state, and for each byte, the next state
pub record Automaton : Type 0 where
  pub states : ℕ
  pub table : List ℕ

-- between 1 and 64 states, and a next state of the automaton's own for each state and byte
pub record IsAutomaton (d : Automaton) : Type 0 where
  pub some_state : 1 ≤ d.states
  pub few_states : d.states ≤ 64
  pub one_for_each : length d.table ≡ 256 * d.states
  pub closed : All (λ s. s < d.states) d.table

-- a word is a list of bytes
abbrev pub IsWord : List ℕ → Type 0
IsWord word = All (λ b. b < 256) word

module _ (d : Automaton) where
  -- the state that a byte leads to
  abbrev pub step : ℕ → ℕ → ℕ
  step s b = slice_index d.table (256 * s + b)

  -- the state that a word leads to
  abbrev pub run : ℕ → List ℕ → ℕ
  run s [] = s
  run s (b ∷ word) = run (step s b) word
