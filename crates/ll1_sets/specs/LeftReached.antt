-- The nonterminals that may stand first in a form that a nonterminal derives.
use Rattle.std.specs.Prelude.{◌≡◌, ℕ, List, [], ◌∷◌, Bool, true, false, ◌==◌, ◌||◌, take, Some, slice_get, slice_index_or}
use Rattle.grammar_file.specs.declared.symbols.Symbol.{Symbol}
use Rattle.grammar_file.specs.declared.symbols.Symbol.TheVariants.{Terminal, Nonterminal}
use Rattle.grammar_file.specs.Grammar.{Grammar, Production}
use Rattle.grammar_file.specs.Derivation.{Derives}
use Rattle.ll1_sets.specs.Marking.{all_vanish}

-- a derives, in one or more steps, a form that begins with x
abbrev pub IsLeftReached : Grammar → ℕ → ℕ → Type 0
IsLeftReached g a x = (p : ℕ) × (ps : List ℕ) × (rest : List Symbol) × Derives g (Nonterminal a ∷ []) (p ∷ ps) (Nonterminal x ∷ rest)

-- each nonterminal that stands first in the form, or behind nonterminals that may derive nothing, is marked
abbrev pub AreFrontsMarked : List Bool → List Bool → List Symbol → Type 0
AreFrontsMarked nullable marks [] = Unit {0}
AreFrontsMarked nullable marks (Terminal c ∷ form) = Unit {0}
AreFrontsMarked nullable marks (Nonterminal x ∷ form) = (slice_index_or marks x false ≡ true) × (slice_index_or nullable x false ≡ true → AreFrontsMarked nullable marks form)

-- one of them isn't
pub record IsNextFront (nullable marks : List Bool) (form : List Symbol) (x : ℕ) : Type 0 where
  pub place : ℕ
  pub symbol_is : slice_get form place ≡ Some (Nonterminal x)
  pub before_is : all_vanish nullable (take place form) ≡ true
  pub is_new : slice_index_or marks x false ≡ false

-- a nonterminal is left to be marked in a right side of a, or of one that is marked
pub record IsNextLeft (nullable marks : List Bool) (a : ℕ) (productions : List Production) (x : ℕ) : Type 0 where
  pub number : ℕ
  pub rule : Production
  pub rule_is : slice_get productions number ≡ Some rule
  pub left_is : (rule.left == a || slice_index_or marks rule.left false) ≡ true
  pub in_right : IsNextFront nullable marks rule.right x

-- none is left
abbrev pub IsLeftClosed : List Bool → List Bool → ℕ → List Production → Type 0
IsLeftClosed nullable marks a productions =
    (number : ℕ) (rule : Production) → slice_get productions number ≡ Some rule
    → (rule.left == a || slice_index_or marks rule.left false) ≡ true → AreFrontsMarked nullable marks rule.right
