-- Cells for each terminal that may be matched last: a class of them for each, with no cells until it is opened.
use Rattle.std.specs.Prelude.{◌≡◌, ◌⊎◌, ℕ, ◌+◌, ◌*◌, List, [], ◌∷◌, length, Some, slice_get}
use Rattle.grammar_file.specs.declared.symbols.Symbol.{Symbol}
use Rattle.llp_tables.specs.CellSlots.{HasCell, room_at}
use Rattle.llp_tables.specs.Lookbacks.{cells_at}
use Rattle.llp_tables.specs.Slots.{add, room}
use Rattle.llp_tables.specs.declared.cells.Cell.{Cell}
use Rattle.llp_tables.specs.declared.cells.Members.{Members}
use Rattle.llp_wide.specs.Claims.{Claim}

-- the symbol has a cell in the class of z
abbrev pub HasWideCell : List Members → ℕ → Symbol → Type 0
HasWideCell classes z symbol = (members : Members) × (slice_get classes z ≡ Some members) × HasCell members symbol

-- the class has a cell for each terminal and each nonterminal
abbrev pub IsOpen : ℕ → ℕ → Members → Type 0
IsOpen terminals nonterminals members = (length members.terminals.items ≡ terminals) × (length members.nonterminals.items ≡ nonterminals)

-- a class for each terminal, open or with no cells
pub record AreClasses (terminals nonterminals : ℕ) (classes : List Members) : Type 0 where
  pub count : length classes ≡ terminals
  pub cells : (z : ℕ) (members : Members) → slice_get classes z ≡ Some members → IsOpen terminals nonterminals members ⊎ IsOpen 0 0 members

-- how many more strings the cells of a class may keep, or this many where it isn't open yet
abbrev pub room_for : ℕ → List Cell → List Cell → ℕ
room_for full [] [] = full
room_for full [] (c ∷ nonterminals) = room_at [] + room_at (c ∷ nonterminals)
room_for full (c ∷ terminals) nonterminals = room_at (c ∷ terminals) + room_at nonterminals

-- how many more strings all cells may keep, once they are there
abbrev pub room_in : ℕ → ℕ → List Members → ℕ
room_in terminals nonterminals [] = 0
room_in terminals nonterminals (members ∷ classes) = room_for (2 * terminals + 2 * nonterminals) members.terminals.items members.nonterminals.items + room_in terminals nonterminals classes

-- the class of z is open, and nothing else has changed
pub record HasOpened (terminals nonterminals : ℕ) (old new : List Members) (z : ℕ) : Type 0 where
  pub classes : AreClasses terminals nonterminals old → AreClasses terminals nonterminals new
  pub open_now : AreClasses terminals nonterminals old → (members : Members) → slice_get new z ≡ Some members → IsOpen terminals nonterminals members
  pub same : (y : ℕ) (s : Symbol) → cells_at new y s ≡ cells_at old y s
  pub room_is : room_in terminals nonterminals new ≡ room_in terminals nonterminals old

-- the string comes into its cell, where there is room for it, and the other cells stay
pub record HasAdded (old new : List Members) (claim : Claim) : Type 0 where
  pub size : length new ≡ length old
  pub cells : (terminals nonterminals : ℕ) → AreClasses terminals nonterminals old → AreClasses terminals nonterminals new
  pub at : cells_at new claim.before claim.symbol ≡ add claim.stack (cells_at old claim.before claim.symbol)
  pub there : (z : ℕ) (s : Symbol) → ((z ≡ claim.before) × (s ≡ claim.symbol)) ⊎ (cells_at new z s ≡ cells_at old z s)
  pub room_is : (terminals nonterminals : ℕ) → room_in terminals nonterminals new + room (cells_at old claim.before claim.symbol)
      ≡ room_in terminals nonterminals old + room (cells_at new claim.before claim.symbol)
