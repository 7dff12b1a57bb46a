-- Strings that come into the cells of symbols, by the terminals that are matched last before them.
use Rattle.std.specs.Prelude.{◌≡◌, ◌⊎◌, ℕ, List, [], ◌∷◌, ◌++◌, length, take, ◌+◌, Bool, true, false, Some, slice_get}
use Rattle.grammar_file.specs.declared.symbols.Symbol.{Symbol}
use Rattle.grammar_file.specs.declared.symbols.Symbol.TheVariants.{Terminal, Nonterminal}
use Rattle.grammar_file.specs.Grammar.{Grammar, begin_mark, end_mark}
use Rattle.grammar_file.specs.Drive.{first_stack}
use Rattle.llp_tables.specs.Cells.{IsBefore}
use Rattle.llp_tables.specs.Forced.{is_stop}
use Rattle.llp_tables.specs.LeastMembers.{KeepsLeast}
use Rattle.ll1_sets.specs.Marking.{all_vanish}
use Rattle.llp_tables.specs.Slots.{Slots, covers}
use Rattle.llp_wide.specs.WideBehind.{WideBehind}
use Rattle.llp_wide.specs.Added.{IsIn, SomeBelow}
use Rattle.llp_wide.specs.Places.{Spot}

-- the string waits to come into the symbol's cell, where `before` is matched last
pub record Claim : Type 0 where
  pub before : ℕ
  pub symbol : Symbol
  pub stack : List Symbol

-- b begins in `after`, which stands behind the symbol: at its symbol j, or at one of the first n
abbrev pub IsStopAt : List Bool → List Bool → ℕ → List Symbol → ℕ → Symbol → ℕ → Claim → Type 0
IsStopAt nullable first b after before symbol j claim =
    (last : Symbol) × (slice_get after j ≡ Some last) × (is_stop nullable first b (take j after) last ≡ true) × (claim ≡ record { before = before; symbol = symbol; stack = take (j + 1) after })

abbrev pub IsStopIn : List Bool → List Bool → ℕ → List Symbol → ℕ → Symbol → Claim → Type 0
IsStopIn nullable first b after before symbol = SomeBelow (length after) (IsStopAt nullable first b after before symbol)

-- the same behind place i
abbrev pub IsStopBy : List Bool → List Bool → ℕ → List Spot → ℕ → Claim → Type 0
IsStopBy nullable first b spots i claim = (spot : Spot) × (slice_get spots i ≡ Some spot) × IsStopIn nullable first b spot.after spot.before spot.symbol claim

-- the same behind some place of owner n
abbrev pub IsStopOf : List Bool → List Bool → ℕ → List (List Spot) → ℕ → Claim → Type 0
IsStopOf nullable first b groups n claim = (spots : List Spot) × (slice_get groups n ≡ Some spots) × SomeBelow (length spots) (IsStopBy nullable first b spots) claim

-- in the whole text, or behind some place
abbrev pub IsFirstClaim : List Bool → List Bool → ℕ → Grammar → List (List Spot) → Claim → Type 0
IsFirstClaim nullable first b g groups claim =
    (IsStopIn nullable first b (first_stack g) begin_mark (Terminal begin_mark) claim
    ⊎ IsStopIn nullable first b (Terminal (end_mark g) ∷ []) begin_mark (Nonterminal 0) claim) ⊎ SomeBelow (length groups) (IsStopOf nullable first b groups) claim

-- what stands behind the place in its right side vanishes, and its owner has the string
abbrev pub IsPassAt : List Bool → Claim → Spot → Claim → Type 0
IsPassAt nullable owner spot claim =
    (owner.symbol ≡ Nonterminal spot.owner.nonterminal) × (owner.before ≡ spot.owner.before) × (all_vanish nullable spot.after ≡ true)
    × (claim ≡ record { before = spot.before; symbol = spot.symbol; stack = spot.after ++ owner.stack })

-- some place does so
abbrev pub IsPassOf : List Bool → Claim → List Spot → Claim → Type 0
IsPassOf nullable owner spots = SomeBelow (length spots) (λ i claim. (spot : Spot) × (slice_get spots i ≡ Some spot) × IsPassAt nullable owner spot claim)

-- no string waits that isn't covered
abbrev pub AreClaimsCovered : List Claim → (ℕ → Symbol → Slots) → Type 0
AreClaimsCovered claims cell = (claim : Claim) → IsIn claims claim → covers (cell claim.before claim.symbol) claim.stack ≡ true

-- the least of those that aren't covered
pub record IsLeastClaim (claims : List Claim) (cell : ℕ → Symbol → Slots) (claim : Claim) : Type 0 where
  pub waiting : IsIn claims claim
  pub uncovered : covers (cell claim.before claim.symbol) claim.stack ≡ false
  pub least : (other : Claim) → IsIn claims other → (covers (cell other.before other.symbol) other.stack ≡ true) ⊎ (IsBefore other.stack claim.stack → ⊥)

-- each terminal's cell has the least of what is closed behind it where b comes next
abbrev pub AreLeastWide : Grammar → ℕ → (ℕ → Symbol → Slots) → Type 0
AreLeastWide g b cell = (z a : ℕ) → KeepsLeast (WideBehind g z (Terminal a) b) (cell z (Terminal a))
