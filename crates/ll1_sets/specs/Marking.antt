-- Tests of forms by marks on nonterminals, and what is left to be marked: how FIRST and FOLLOW are computed.
use Rattle.std.specs.Prelude.{◌≡◌, ℕ, List, [], ◌∷◌, Bool, true, false, ◌==◌, ◌&&◌, ◌||◌, ◌+◌, drop, Some, slice_get, slice_index_or}
use Rattle.std.specs.List.{list_all}
use Rattle.grammar_file.specs.declared.symbols.Symbol.{Symbol}
use Rattle.grammar_file.specs.declared.symbols.Symbol.TheVariants.{Terminal, Nonterminal}
use Rattle.grammar_file.specs.Grammar.{Production}

-- the symbol may derive nothing
abbrev pub vanishes : List Bool → Symbol → Bool
vanishes nullable (Terminal a) = false
vanishes nullable (Nonterminal a) = slice_index_or nullable a false

abbrev pub all_vanish : List Bool → List Symbol → Bool
all_vanish nullable form = list_all (vanishes nullable) form

-- what the symbol derives may begin with b
abbrev pub starts : List Bool → ℕ → Symbol → Bool
starts first b (Terminal a) = a == b
starts first b (Nonterminal a) = slice_index_or first a false

-- what the form derives may begin with b
abbrev pub begins : List Bool → List Bool → ℕ → List Symbol → Bool
begins nullable first b [] = false
begins nullable first b (s ∷ form) = starts first b s || (vanishes nullable s && begins nullable first b form)

-- a nonterminal is left to be marked, since a right side of its own passes the test
pub record IsNextBy (test : List Symbol → Bool) (productions : List Production) (marks : List Bool) (a : ℕ) : Type 0 where
  pub place : ℕ
  pub rule : Production
  pub rule_is : slice_get productions place ≡ Some rule
  pub left_is : rule.left ≡ a
  pub right_is : test rule.right ≡ true
  pub is_new : slice_index_or marks a false ≡ false

-- none is left
abbrev pub IsClosedBy : (List Symbol → Bool) → List Production → List Bool → Type 0
IsClosedBy test productions marks = (place : ℕ) (rule : Production) → slice_get productions place ≡ Some rule → test rule.right ≡ true → slice_index_or marks rule.left false ≡ true

-- b may come behind what stands before `after` in a right side of `left`: `after` may begin with it, or derive nothing where b may come behind `left`
abbrev pub comes_behind : List Bool → List Bool → List Bool → ℕ → ℕ → List Symbol → Bool
comes_behind nullable first follow b left after = begins nullable first b after || (all_vanish nullable after && slice_index_or follow left false)

-- a nonterminal is left to be marked in a right side of `left`
pub record IsNextFollowIn (nullable first follow : List Bool) (b left : ℕ) (right : List Symbol) (a : ℕ) : Type 0 where
  pub place : ℕ
  pub symbol_is : slice_get right place ≡ Some (Nonterminal a)
  pub comes : comes_behind nullable first follow b left (drop (place + 1) right) ≡ true
  pub is_new : slice_index_or follow a false ≡ false

-- none is left there
abbrev pub IsFollowClosedIn : List Bool → List Bool → List Bool → ℕ → ℕ → List Symbol → Type 0
IsFollowClosedIn nullable first follow b left right =
    (place a : ℕ) → slice_get right place ≡ Some (Nonterminal a) → comes_behind nullable first follow b left (drop (place + 1) right) ≡ true → slice_index_or follow a false ≡ true

-- a nonterminal is left to be marked in some right side
pub record IsNextFollow (nullable first follow : List Bool) (b : ℕ) (productions : List Production) (a : ℕ) : Type 0 where
  pub number : ℕ
  pub rule : Production
  pub rule_is : slice_get productions number ≡ Some rule
  pub in_right : IsNextFollowIn nullable first follow b rule.left rule.right a

-- none is left in any
abbrev pub IsFollowClosed : List Bool → List Bool → List Bool → ℕ → List Production → Type 0
IsFollowClosed nullable first follow b productions = (number : ℕ) (rule : Production) → slice_get productions number ≡ Some rule → IsFollowClosedIn nullable first follow b rule.left rule.right
