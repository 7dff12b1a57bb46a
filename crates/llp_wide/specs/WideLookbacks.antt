-- The sets PSLS of all triples of terminals in one table, where each has at most one member.
use Rattle.std.specs.Prelude.{◌≡◌, ℕ, ◌*◌, ◌<◌, List, length, map, ◌&&◌, nat_lt, if◌then◌else◌, Option, Some, None, slice_get, slice_index_or}
use Rattle.std.specs.List.{AllByRecursion}
use Rattle.grammar_file.specs.declared.symbols.Symbol.{Symbol}
use Rattle.grammar_file.specs.Grammar.{Grammar}
use Rattle.ll1_sets.specs.Predict.{IsLl1}
use Rattle.ll1_sets.specs.Width.{width_of}
use Rattle.llp_tables.specs.Lookback.{IsLookback}
use Rattle.llp_wide.specs.Wide.{IsWideLookback, IsWideLlp}
use Rattle.llp_wide.specs.WideEntries.{triple_place}

-- a stack that is closed where the terminal `ahead` comes next
pub record ClosedStack : Type 0 where
  pub ahead : ℕ
  pub closes : List Symbol

-- it is closed behind some terminal
abbrev pub IsClosed : Grammar → ClosedStack → Type 0
IsClosed g c = (a : ℕ) × IsLookback g a c.ahead c.closes

abbrev pub AreClosed : Grammar → List ClosedStack → Type 0
AreClosed g stacks = (n : ℕ) (c : ClosedStack) → slice_get stacks n ≡ Some c → IsClosed g c

-- PSLS(z,a,b) has this one member, or none
abbrev pub HasWideLookback : Grammar → ℕ → ℕ → ℕ → Option ClosedStack → Type 0
HasWideLookback g z a b (Some c) = (c.ahead ≡ b) × IsWideLookback g z a b c.closes × ((beta : List Symbol) → IsWideLookback g z a b beta → beta ≡ c.closes)
HasWideLookback g z a b None = (beta : List Symbol) → ¬ IsWideLookback g z a b beta

-- what a number stands for
abbrev pub item_at : {A : Type 0} → List A → Option ℕ → Option A
item_at items None = None
item_at items (Some n) = slice_get items n

-- the number, if there is one, is of one of this many items
abbrev pub IsNumberOf : ℕ → Option ℕ → Type 0
IsNumberOf count None = Unit {0}
IsNumberOf count (Some n) = n < count

-- how many terminals there are, with the two marks, stacks, and the number of a stack for each triple of terminals: triples that close the same before the same terminal share it
pub record WideLookbackTable : Type 0 where
  pub width : ℕ
  pub numbers : List (Option ℕ)
  pub stacks : List ClosedStack

-- what is closed where z and then a are matched last and b comes next
abbrev pub wide_lookback_of : WideLookbackTable → ℕ → ℕ → ℕ → Option ClosedStack
wide_lookback_of t z a b =
    if nat_lt z t.width && (nat_lt a t.width && nat_lt b t.width) then slice_index_or (map (item_at t.stacks) t.numbers) (triple_place t.width z a b) None else None

-- the table of a grammar that is LL(1) and LLP(2,1)
pub record AreWideLookbacksOf (g : Grammar) (t : WideLookbackTable) : Type 0 where
  pub width_is : t.width ≡ width_of g
  pub size_is : length t.numbers ≡ t.width * t.width * t.width
  pub numbers_are : AllByRecursion (IsNumberOf (length t.stacks)) t.numbers
  pub closed : AreClosed g t.stacks
  pub ll1 : IsLl1 g
  pub llp : IsWideLlp g
  pub lookbacks : (z a b : ℕ) → HasWideLookback g z a b (wide_lookback_of t z a b)
