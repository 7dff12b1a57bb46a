-- The pieces of stacks that are closed, one for each.
use Rattle.std.specs.Prelude.{◌≡◌, ℕ, ◌<◌, List, length, Some, slice_get}
use Rattle.grammar_file.specs.Grammar.{Grammar}
use Rattle.llp_tables.specs.Lookback.{IsPiece}
use Rattle.llp_tables.specs.Tables.{Entry}
use Rattle.llp_wide.specs.WideLookbacks.{ClosedStack}

-- the entry closes the stack, and is a piece for the terminal that comes next
pub record IsMadeFor (g : Grammar) (c : ClosedStack) (e : Entry) : Type 0 where
  pub closes_are : e.closes ≡ c.closes
  pub piece : IsPiece g c.ahead e.closes e.opens e.productions

-- as many entries as there are, one for each stack from the first on
abbrev pub AreMadeFor : Grammar → List ClosedStack → List Entry → Type 0
AreMadeFor g stacks entries = (n : ℕ) (c : ClosedStack) → n < length entries → slice_get stacks n ≡ Some c → (e : Entry) × (slice_get entries n ≡ Some e) × IsMadeFor g c e
