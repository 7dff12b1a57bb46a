-- The functions from states to states that words make: the transition monoid of an automaton.
use Rattle.std.specs.Prelude.{◌≡◌, ◌≢◌, ℕ, ◌+◌, ◌<◌, List, length, map, All, AllPairs, Contains, slice_index}
use Rattle.std.specs.List.{range_with_len}
use Rattle.state_monoid.specs.Automaton.{Automaton, IsWord, run}

-- A function from states to states is the list of its values.
-- It leads from the states 0, 1, .. to states of the same automaton:
abbrev pub IsFunction : List ℕ → Type 0
IsFunction f = All (λ s. s < length f) f

-- first f, and then g
abbrev pub compose : List ℕ → List ℕ → List ℕ
compose f g = map (λ s. slice_index g s) f

module _ (d : Automaton) where
  -- the states in which a word ends, from each state
  abbrev pub image : List ℕ → List ℕ
  image word = map (λ s. run d s word) (range_with_len 0 d.states)

  -- some word has this image
  abbrev pub IsReached : List ℕ → Type 0
  IsReached f = (word : List ℕ) × IsWord word × (image word ≡ f)

  -- the functions, each once, that words make
  pub record IsNumbering (functions : List (List ℕ)) : Type 0 where
    pub distinct : AllPairs (λ f g. f ≢ g) functions
    pub reached : All IsReached functions
    pub complete : (word : List ℕ) → IsWord word → Contains functions (image word)

  -- there are n + 1 functions that words make
  pub record HasMoreThan (n : ℕ) : Type 0 where
    pub functions : List (List ℕ)
    pub count : length functions ≡ n + 1
    pub distinct : AllPairs (λ f g. f ≢ g) functions
    pub reached : All IsReached functions
