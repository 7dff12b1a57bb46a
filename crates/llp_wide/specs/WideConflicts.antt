-- The least conflict where two terminals are looked back at, one terminal that comes next after the other.
use Rattle.std.specs.Prelude.{◌≡◌, ◌≢◌, ℕ, ◌<◌, ◌⊎◌, List, IsTrue, Option, Some, None}
use Rattle.grammar_file.specs.declared.symbols.Symbol.{Symbol}
use Rattle.grammar_file.specs.declared.symbols.Symbol.TheVariants.{Terminal}
use Rattle.grammar_file.specs.Grammar.{Grammar}
use Rattle.llp_tables.specs.LeastMembers.{KeepsLeast}
use Rattle.llp_tables.specs.Lookbacks.{cells_at, HasNoTwo}
use Rattle.llp_tables.specs.Slots.{Two}
use Rattle.llp_tables.specs.Tables.{stack_lt}
use Rattle.llp_tables.specs.declared.cells.Members.{Members}
use Rattle.llp_wide.specs.Wide.{IsWideLookback}
use Rattle.llp_wide.specs.declared.conflicts.WideConflict.{WideConflict}

-- the cells of the terminals have the least members of each PSLS(z,a,b)
abbrev pub TellWide : Grammar → ℕ → List Members → Type 0
TellWide g b classes = (z a : ℕ) → KeepsLeast (IsWideLookback g z a b) (cells_at classes z (Terminal a))

-- PSLS(z,a,b) has at most one member
abbrev pub HasOneAtMost : Grammar → ℕ → ℕ → ℕ → Type 0
HasOneAtMost g z a b = (beta gamma : List Symbol) → IsWideLookback g z a b beta → IsWideLookback g z a b gamma → beta ≡ gamma

-- behind z, the least a whose cell has two strings
pub record IsLeastTwoIn (classes : List Members) (z a : ℕ) (first second : List Symbol) : Type 0 where
  pub two : cells_at classes z (Terminal a) ≡ Two first second
  pub no_lesser : (d : ℕ) → d < a → HasNoTwo (cells_at classes z (Terminal d))

-- the same for all z and a
abbrev pub IsWideLlpOn : Grammar → ℕ → Type 0
IsWideLlpOn g b = (z a : ℕ) → HasOneAtMost g z a b

-- y and then d come before z and then a
abbrev pub IsLesserPair : ℕ → ℕ → ℕ → ℕ → Type 0
IsLesserPair y d z a = (y < z) ⊎ ((y ≡ z) × (d < a))

-- the two least members of PSLS(z,a,b)
pub record AreTwoLeastWide (g : Grammar) (k : WideConflict) : Type 0 where
  pub first_member : IsWideLookback g k.z k.a k.b k.first
  pub second_member : IsWideLookback g k.z k.a k.b k.second
  pub in_order : IsTrue (stack_lt k.first k.second)
  pub no_lesser_member : (beta : List Symbol) → IsWideLookback g k.z k.a k.b beta → beta ≢ k.first → IsTrue (stack_lt beta k.second) → ⊥

-- the least conflict where b comes next
pub record IsLeastWideOn (g : Grammar) (b : ℕ) (k : WideConflict) : Type 0 where
  pub on : k.b ≡ b
  pub pair : AreTwoLeastWide g k
  pub no_lesser : (y d : ℕ) → IsLesserPair y d k.z k.a → HasOneAtMost g y d b

-- the least conflict where a terminal below n comes next
pub record IsLeastWideBelow (g : Grammar) (n : ℕ) (k : WideConflict) : Type 0 where
  pub pair : AreTwoLeastWide g k
  pub no_lesser_look_ahead : (c : ℕ) → c < k.b → HasOneAtMost g k.z k.a c
  pub no_lesser : (y d c : ℕ) → IsLesserPair y d k.z k.a → c < n → HasOneAtMost g y d c

abbrev pub LeastWideOn : Grammar → ℕ → Option WideConflict → Type 0
LeastWideOn g b None = IsWideLlpOn g b
LeastWideOn g b (Some k) = IsLeastWideOn g b k

abbrev pub LeastWideBelow : Grammar → ℕ → Option WideConflict → Type 0
LeastWideBelow g n None = (z a c : ℕ) → c < n → HasOneAtMost g z a c
LeastWideBelow g n (Some k) = IsLeastWideBelow g n k
