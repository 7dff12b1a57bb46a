-- PSLS(z,a,b) and LLP(2,1): LLP parsing with two terminals of look-back and one of look-ahead (Vagner and Melichar, "Parallel LL Parsing").
use Rattle.std.specs.Prelude.{◌≡◌, ◌≢◌, ℕ, ◌<◌, List, [], ◌∷◌, ◌++◌, IsTrue, Option, Some, None}
use Rattle.grammar_file.specs.declared.symbols.Symbol.{Symbol}
use Rattle.grammar_file.specs.declared.symbols.Symbol.TheVariants.{Terminal}
use Rattle.grammar_file.specs.Grammar.{Grammar, whole, begin_mark}
use Rattle.grammar_file.specs.Derivation.{FirstReaches}
use Rattle.ll1_sets.specs.Behind.{BeginsAtLast}
use Rattle.llp_tables.specs.Lookback.{IsPiece}
use Rattle.llp_tables.specs.Tables.{Entry, stack_lt}

-- what the whole text is derived from where two terminals are looked back at: the begin mark stands twice
abbrev pub wide_whole : Grammar → List Symbol
wide_whole g = Terminal begin_mark ∷ whole g

-- the stack right after a is matched, where z is matched last before a
abbrev pub IsWideStackAfter : Grammar → ℕ → ℕ → List Symbol → Type 0
IsWideStackAfter g z a stack = (ps x : List ℕ) × FirstReaches g (wide_whole g) ps (x ++ z ∷ a ∷ []) stack

-- beta is in PSLS(z,a,b): the shortest prefix of a stack right after z and then a whose part of the word begins with b
abbrev pub IsWideLookback : Grammar → ℕ → ℕ → ℕ → List Symbol → Type 0
IsWideLookback g z a b beta = (below : List Symbol) × IsWideStackAfter g z a (beta ++ below) × BeginsAtLast g beta b

-- each PSLS(z,a,b) has at most one member
abbrev pub IsWideLlp : Grammar → Type 0
IsWideLlp g = (z a b : ℕ) (beta gamma : List Symbol) → IsWideLookback g z a b beta → IsWideLookback g z a b gamma → beta ≡ gamma

-- the entry is a piece for b, and closes the one member of PSLS(z,a,b)
pub record IsWideEntry (g : Grammar) (z a b : ℕ) (e : Entry) : Type 0 where
  pub member : IsWideLookback g z a b e.closes
  pub only : (beta : List Symbol) → IsWideLookback g z a b beta → beta ≡ e.closes
  pub piece : IsPiece g b e.closes e.opens e.productions

abbrev pub HasWideEntry : Grammar → ℕ → ℕ → ℕ → Option Entry → Type 0
HasWideEntry g z a b (Some e) = IsWideEntry g z a b e
HasWideEntry g z a b None = (beta : List Symbol) → ¬ IsWideLookback g z a b beta

-- two members of PSLS(z,a,b)
abbrev pub HasTwoWideMembers : Grammar → ℕ → ℕ → ℕ → Type 0
HasTwoWideMembers g z a b = (beta gamma : List Symbol) × (beta ≢ gamma) × IsWideLookback g z a b beta × IsWideLookback g z a b gamma

-- the least z, then a, then b, and the two least members of PSLS(z,a,b)
pub record IsLeastWideConflict (g : Grammar) (z a b : ℕ) (first second : List Symbol) : Type 0 where
  pub first_member : IsWideLookback g z a b first
  pub second_member : IsWideLookback g z a b second
  pub in_order : IsTrue (stack_lt first second)
  pub no_lesser_member : (beta : List Symbol) → IsWideLookback g z a b beta → beta ≢ first → IsTrue (stack_lt beta second) → ⊥
  pub no_lesser_look_ahead : (c : ℕ) → c < b → ¬ HasTwoWideMembers g z a c
  pub no_lesser_look_back : (d c : ℕ) → d < a → ¬ HasTwoWideMembers g z d c
  pub no_lesser_before : (y d c : ℕ) → y < z → ¬ HasTwoWideMembers g y d c
