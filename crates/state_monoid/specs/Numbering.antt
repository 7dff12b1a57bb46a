-- The functions that words make, by their numbers.
use Rattle.std.specs.Prelude.{ℕ, ◌≤◌, List, [], ◌∷◌, length, nat_eq, nat_lt, slice_index_or}
use Rattle.std.specs.List.{position_or_len}
use Rattle.std.specs.Cmp.Lexicographic.{pointwise}
use Rattle.word_monoid.specs.Monoid.{Ops}
use Rattle.state_monoid.specs.Automaton.{Automaton, IsAutomaton}
use Rattle.state_monoid.specs.Image.{compose, image, IsNumbering}

-- an automaton, and its at most 4,096 functions: the one with number c stands at place c
pub record Numbering : Type 0 where
  pub automaton : Automaton
  pub functions : List (List ℕ)
  pub is_automaton : IsAutomaton automaton
  pub few : length functions ≤ 4096
  pub numbers_all : ∥ IsNumbering automaton functions ∥₁

module _ (m : Numbering) where
  -- the function with a number
  abbrev pub function_of : ℕ → List ℕ
  function_of c = slice_index_or m.functions c []

  -- the number of a function
  abbrev pub number_of : List ℕ → ℕ
  number_of f = position_or_len (pointwise nat_eq f) m.functions

  -- the number of the function that a byte makes
  abbrev pub byte_number : ℕ → ℕ
  byte_number b = number_of (image m.automaton (b ∷ []))

  -- the numbers as a monoid, joined as their functions are composed
  abbrev pub composition : Ops ℕ
  composition = record {
    accepts = λ c. nat_lt c (length m.functions);
    unit = number_of (image m.automaton []);
    join = λ a b. number_of (compose (function_of a) (function_of b));
    code = λ c. c;
    decode = λ word. word;
  }
