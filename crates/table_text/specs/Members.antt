-- What is closed where a token comes next behind two others, by the sets of a grammar.
use Rattle.std.specs.Prelude.{◌≡◌, ℕ, List, Option, Some, None, option_map}
use Rattle.grammar_file.specs.declared.symbols.Symbol.{Symbol}
use Rattle.grammar_file.specs.Grammar.{Grammar}
use Rattle.ll1_sets.specs.Predict.{IsLl1}
use Rattle.llp_tables.specs.Lookback.{IsLookback}
use Rattle.llp_tables.specs.LookbackTable.{lookback_of}
use Rattle.llp_wide.specs.WideLookbacks.{wide_lookback_of}
use Rattle.glue_summary.specs.declared.behind.Behind.{Behind}
use Rattle.glue_summary.specs.Pieces.{IsClosedBehind}
use Rattle.table_text.specs.declared.lookback.Sets.{Sets}
use Rattle.table_text.specs.declared.lookback.Sets.TheVariants as sets

abbrev pub Members : Type 0
Members = ℕ → ℕ → ℕ → Option (List Symbol)

-- where one terminal is looked back at, the first of the two is passed over
abbrev pub members_of : Sets → Members
members_of (sets.One t) = λ z a b. lookback_of t a b
members_of (sets.Two t) = λ z a b. option_map (λ c. c.closes) (wide_lookback_of t z a b)

abbrev pub member_behind : Members → Behind → ℕ → Option (List Symbol)
member_behind member k b = member k.before_last k.last b

-- each is what alone can be closed there; where there is none, b never comes next
pub record AreMembers (g : Grammar) (member : Members) : Type 0 where
  pub ll1 : IsLl1 g
  pub some : (z a b : ℕ) (closes : List Symbol) → member z a b ≡ Some closes → IsLookback g a b closes
  pub only : (k : Behind) (b : ℕ) (closes : List Symbol) → member_behind member k b ≡ Some closes → (beta : List Symbol) → IsClosedBehind g k b beta → beta ≡ closes
  pub none : (k : Behind) (b : ℕ) → member_behind member k b ≡ None → (beta : List Symbol) → ¬ IsClosedBehind g k b beta
