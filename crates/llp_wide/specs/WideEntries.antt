-- The tables of a grammar that is LL(1) and LLP(2,1), as a value, and how many entries they have.
use Rattle.std.specs.Prelude.{◌≡◌, ℕ, ◌+◌, ◌*◌, ◌<◌, List, length, Bool, true, false, ◌&&◌, nat_lt, if◌then◌else◌, Option, None, slice_index_or, count_by, get_or}
use Rattle.grammar_file.specs.declared.symbols.Symbol.{Symbol}
use Rattle.grammar_file.specs.Grammar.{Grammar}
use Rattle.ll1_sets.specs.Width.{width_of as width}
use Rattle.ll1_sets.specs.Predict.{IsLl1}
use Rattle.llp_tables.specs.Tables.{Entry}
use Rattle.llp_wide.specs.Wide.{IsWideLookback, IsWideLlp, HasWideEntry}

-- the tables of a grammar that is LL(1) and LLP(2,1)
pub record AreWideTables (g : Grammar) (entry : ℕ → ℕ → ℕ → Option Entry) : Type 0 where
  pub ll1 : IsLl1 g
  pub llp : IsWideLlp g
  pub entries : (z a b : ℕ) → HasWideEntry g z a b (entry z a b)

-- how many terminals there are, with the two marks, and an entry for each triple of them: a layer for each terminal that comes next, and in it a row for each that is matched last but one
pub record WideTable : Type 0 where
  pub width : ℕ
  pub entries : List (Option Entry)

-- where the entry stands of z and then a, where b comes next
abbrev pub triple_place : ℕ → ℕ → ℕ → ℕ → ℕ
triple_place width z a b = (b * width + z) * width + a

-- the entry where z and then a are matched last and b comes next
abbrev pub wide_entry_of : WideTable → ℕ → ℕ → ℕ → Option Entry
wide_entry_of t z a b = if nat_lt z t.width && (nat_lt a t.width && nat_lt b t.width) then slice_index_or t.entries (triple_place t.width z a b) None else None

-- the table of such a grammar
pub record AreWideTablesOf (g : Grammar) (t : WideTable) : Type 0 where
  pub width_is : t.width ≡ length g.terminals + 2
  pub size_is : length t.entries ≡ t.width * t.width * t.width
  pub tables : AreWideTables g (wide_entry_of t)

-- PSLS(z,a,b) has a member
abbrev pub HasWideMember : Grammar → ℕ → ℕ → ℕ → Type 0
HasWideMember g z a b = (beta : List Symbol) × IsWideLookback g z a b beta

-- n triples are marked: those with a member
pub record CountsTriples (g : Grammar) (n : ℕ) : Type 0 where
  pub marks : List Bool
  pub size : length marks ≡ width g * width g * width g
  pub marked : (z a b : ℕ) → z < width g → a < width g → b < width g → get_or marks (triple_place (width g) z a b) false ≡ true → HasWideMember g z a b
  pub unmarked : (z a b : ℕ) → z < width g → a < width g → b < width g → get_or marks (triple_place (width g) z a b) false ≡ false → ¬ HasWideMember g z a b
  pub count : n ≡ count_by (λ mark. mark) marks
