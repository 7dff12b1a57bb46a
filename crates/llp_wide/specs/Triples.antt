-- The numbers of the stacks that are closed for triples of terminals, and the stacks: one for each terminal that comes next, and each string that is closed before it.
use Rattle.std.specs.Prelude.{◌≡◌, ℕ, ◌<◌, ◌≤◌, List, ◌++◌, length, map, Option, Some, None, slice_get, slice_index_or}
use Rattle.std.specs.List.{AllByRecursion}
use Rattle.grammar_file.specs.declared.symbols.Symbol.{Symbol}
use Rattle.grammar_file.specs.Grammar.{Grammar}
use Rattle.ll1_sets.specs.Width.{width_of}
use Rattle.llp_wide.specs.WideEntries.{triple_place}
use Rattle.llp_wide.specs.WideLookbacks.{ClosedStack, IsClosed, AreClosed, HasWideLookback, item_at, IsNumberOf}

-- each stack is closed, and from `start` on where b comes next
abbrev pub AreClosedFor : Grammar → ℕ → ℕ → List ClosedStack → Type 0
AreClosedFor g b start stacks = (n : ℕ) (c : ClosedStack) → slice_get stacks n ≡ Some c → IsClosed g c × (start ≤ n → c.ahead ≡ b)

-- one stack for b at most comes behind those that are there
pub record AddsOne (g : Grammar) (b start : ℕ) (old new : List ClosedStack) : Type 0 where
  pub more : List ClosedStack
  pub added : new ≡ old ++ more
  pub few : length more ≤ 1
  pub still : AreClosedFor g b start new

-- the stack of that number is for b, and closes these symbols
pub record HasNumber (g : Grammar) (b start : ℕ) (closes : List Symbol) (old new : List ClosedStack) (n : ℕ) : Type 0 where
  pub adds : AddsOne g b start old new
  pub stack : ClosedStack
  pub there : slice_get new n ≡ Some stack
  pub ahead_is : stack.ahead ≡ b
  pub closes_are : stack.closes ≡ closes

-- the number stands for the member of the triple
pub record TellsTriple (g : Grammar) (z a b start : ℕ) (old new : List ClosedStack) (number : Option ℕ) : Type 0 where
  pub adds : AddsOne g b start old new
  pub number_is : IsNumberOf (length new) number
  pub tells : HasWideLookback g z a b (item_at new number)

-- each number that is there stands for the member of its triple
pub record AreTriples (g : Grammar) (numbers : List (Option ℕ)) (stacks : List ClosedStack) : Type 0 where
  pub numbers_are : AllByRecursion (IsNumberOf (length stacks)) numbers
  pub few : length stacks ≤ length numbers
  pub closed : AreClosed g stacks
  pub tells : (z a b : ℕ) → z < width_of g → a < width_of g → triple_place (width_of g) z a b < length numbers
      → HasWideLookback g z a b (slice_index_or (map (item_at stacks) numbers) (triple_place (width_of g) z a b) None)

-- the first n of them, where the stacks from `start` on are for b
pub record AreTriplesUpTo (g : Grammar) (b start n : ℕ) (numbers : List (Option ℕ)) (stacks : List ClosedStack) : Type 0 where
  pub triples : AreTriples g numbers stacks
  pub size : length numbers ≡ n
  pub behind : start ≤ length stacks
  pub here : AreClosedFor g b start stacks

-- the layers of the first n terminals that come next
pub record AreLayers (g : Grammar) (n : ℕ) (numbers : List (Option ℕ)) (stacks : List ClosedStack) : Type 0 where
  pub triples : AreTriples g numbers stacks
  pub place : length numbers ≡ triple_place (width_of g) 0 0 n
