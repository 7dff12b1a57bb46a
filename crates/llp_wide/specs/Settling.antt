-- Cells that fill up from the least string on, for each terminal that is matched last before a symbol.
use Rattle.std.specs.Prelude.{◌≡◌, ◌⊎◌, ℕ, List, Bool, true, length}
use Rattle.grammar_file.specs.declared.symbols.Symbol.{Symbol}
use Rattle.grammar_file.specs.Grammar.{Grammar}
use Rattle.llp_tables.specs.Cells.{IsBefore}
use Rattle.llp_tables.specs.Slots.{Slots, Holds, AreInOrder, covers}
use Rattle.llp_wide.specs.Added.{IsIn}
use Rattle.llp_wide.specs.Claims.{Claim, IsFirstClaim, IsPassOf, IsLeastClaim}
use Rattle.llp_wide.specs.Places.{Spot, spots_behind}
use Rattle.llp_wide.specs.WideBehind.{BehindAny}

-- `claims` have waited so far. Each is a member, and covered or no less than `last`. No string that is in a cell is greater than that, and all that is forced has waited.
pub record IsWideSettling (g : Grammar) (nullable first : List Bool) (b : ℕ) (groups : List (List Spot)) (last : List Symbol) (cell : ℕ → Symbol → Slots) (claims : List Claim) : Type 0 where
  pub ordered : (z : ℕ) (s : Symbol) → AreInOrder (cell z s)
  pub made : (z : ℕ) (s : Symbol) (t : List Symbol) → Holds (cell z s) t → BehindAny g z s b t
  pub behind : (z : ℕ) (s : Symbol) (t : List Symbol) → Holds (cell z s) t → IsBefore last t → ⊥
  pub waits : (x : Claim) → IsIn claims x → BehindAny g x.before x.symbol b x.stack
  pub ahead : (x : Claim) → IsIn claims x → (covers (cell x.before x.symbol) x.stack ≡ true) ⊎ (IsBefore x.stack last → ⊥)
  pub firsts : (x : Claim) → IsFirstClaim nullable first b g groups x → IsIn claims x
  pub passes : (z : ℕ) (s : Symbol) (t : List Symbol) → Holds (cell z s) t → (x : Claim)
      → IsPassOf nullable (record { before = z; symbol = s; stack = t }) (spots_behind (length g.nonterminals) groups z s) x → IsIn claims x

-- of the claims that have waited these are left, and the cells cover all others
pub record AreLeft (cell : ℕ → Symbol → Slots) (claims left : List Claim) : Type 0 where
  pub from : (x : Claim) → IsIn left x → IsIn claims x
  pub others : (x : Claim) → IsIn claims x → IsIn left x ⊎ (covers (cell x.before x.symbol) x.stack ≡ true)

-- the claim is the least that isn't covered; it has been taken out, with some that are
pub record IsTakenOut (cell : ℕ → Symbol → Slots) (old new : List Claim) (claim : Claim) : Type 0 where
  pub least : IsLeastClaim old cell claim
  pub from : (x : Claim) → IsIn new x → IsIn old x
  pub others : (x : Claim) → IsIn old x → (IsIn new x ⊎ (covers (cell x.before x.symbol) x.stack ≡ true)) ⊎ (x ≡ claim)
