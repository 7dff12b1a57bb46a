-- The sets PSLS of all pairs of terminals in one table, where each has at most one member.
use Rattle.std.specs.Prelude.{◌≡◌, ℕ, ◌+◌, ◌*◌, ◌<◌, List, length, ◌&&◌, nat_lt, if◌then◌else◌, Option, Some, None, slice_index_or}
use Rattle.grammar_file.specs.declared.symbols.Symbol.{Symbol}
use Rattle.grammar_file.specs.Grammar.{Grammar}
use Rattle.ll1_sets.specs.Width.{width_of}
use Rattle.ll1_sets.specs.Predict.{IsLl1}
use Rattle.llp_tables.specs.Lookback.{IsLookback, IsLlp}

-- PSLS(a,b) has this one member, or none
abbrev pub HasLookback : Grammar → ℕ → ℕ → Option (List Symbol) → Type 0
HasLookback g a b (Some x) = IsLookback g a b x × ((beta : List Symbol) → IsLookback g a b beta → beta ≡ x)
HasLookback g a b None = (beta : List Symbol) → ¬ IsLookback g a b beta

-- how many terminals there are, with the two marks, and a row for each terminal that comes next, with a member for each that stands before it
pub record LookbackTable : Type 0 where
  pub width : ℕ
  pub members : List (Option (List Symbol))

-- the member where b comes next behind a
abbrev pub lookback_of : LookbackTable → ℕ → ℕ → Option (List Symbol)
lookback_of t a b = if nat_lt a t.width && nat_lt b t.width then slice_index_or t.members (b * t.width + a) None else None

-- the table of a grammar that is LL(1) and LLP(1,1)
pub record AreLookbacksOf (g : Grammar) (t : LookbackTable) : Type 0 where
  pub width_is : t.width ≡ width_of g
  pub size_is : length t.members ≡ t.width * t.width
  pub ll1 : IsLl1 g
  pub llp : IsLlp g
  pub lookbacks : (a b : ℕ) → HasLookback g a b (lookback_of t a b)

-- each member that is there is that of its pair
abbrev pub AreMembers : Grammar → List (Option (List Symbol)) → Type 0
AreMembers g members = (a b : ℕ) → a < width_of g → b * width_of g + a < length members → HasLookback g a b (slice_index_or members (b * width_of g + a) None)
