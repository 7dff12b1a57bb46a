-- Pieces by the last two tokens before a place. Where a grammar has tables with one token of look-back, the first of the two is passed over.
use Rattle.std.specs.Prelude.{◌≡◌, ℕ, ◌-◌, List, [], ◌∷◌, ◌++◌, Option, Some, None}
use Rattle.grammar_file.specs.declared.symbols.Symbol.{Symbol}
use Rattle.grammar_file.specs.Grammar.{Grammar, begin_mark, whole}
use Rattle.grammar_file.specs.Derivation.{FirstReaches}
use Rattle.llp_tables.specs.EntryTable.{EntryTable, entry_of}
use Rattle.ll1_sets.specs.Behind.{BeginsAtLast}
use Rattle.llp_tables.specs.Lookback.{IsPiece}
use Rattle.ll1_sets.specs.Predict.{IsLl1}
use Rattle.llp_tables.specs.Tables.{Entry}
use Rattle.glue_summary.specs.declared.behind.Behind.{Behind}

-- what is closed and opened where b comes next behind z and then a
abbrev pub Pieces : Type 0
Pieces = ℕ → ℕ → ℕ → Option Entry

-- the pieces and the end mark of tables with one token of look-back
abbrev pub pieces_by : EntryTable → Pieces
pieces_by t = λ z a b. entry_of t a b

abbrev pub end_by : EntryTable → ℕ
end_by t = t.width - 1

-- ---- the last two tokens: before a word the begin mark stands twice, and each token comes behind the last one

abbrev pub at_begin : Behind
at_begin = record { before_last = begin_mark; last = begin_mark }

abbrev pub behind_next : Behind → ℕ → Behind
behind_next k b = record { before_last = k.last; last = b }

abbrev pub behind_all : Behind → List ℕ → Behind
behind_all k [] = k
behind_all k (b ∷ tokens) = behind_all (behind_next k b) tokens

abbrev pub piece_behind : Pieces → Behind → ℕ → Option Entry
piece_behind piece k b = piece k.before_last k.last b

-- ---- pieces that are a grammar's

-- a stack right behind a beginning of a text whose last two tokens are these
abbrev pub IsStackBehind : Grammar → Behind → List Symbol → Type 0
IsStackBehind g k stack = (ps x : List ℕ) × FirstReaches g (whole g) ps (begin_mark ∷ x) stack × (behind_all at_begin x ≡ k)

-- beta is closed on such a stack where b comes next: it is the shortest prefix whose part of the text begins with b
abbrev pub IsClosedBehind : Grammar → Behind → ℕ → List Symbol → Type 0
IsClosedBehind g k b beta = (below : List Symbol) × IsStackBehind g k (beta ++ below) × BeginsAtLast g beta b

-- each piece closes what can only be closed there, and leads from it to b and what is opened; where there is none, b never comes next
pub record ArePieces (g : Grammar) (piece : Pieces) : Type 0 where
  pub ll1 : IsLl1 g
  pub closes : (k : Behind) (b : ℕ) (e : Entry) → piece_behind piece k b ≡ Some e → (beta : List Symbol) → IsClosedBehind g k b beta → beta ≡ e.closes
  pub opens : (k : Behind) (b : ℕ) (e : Entry) → piece_behind piece k b ≡ Some e → IsPiece g b e.closes e.opens e.productions
  pub none : (k : Behind) (b : ℕ) → piece_behind piece k b ≡ None → (beta : List Symbol) → ¬ IsClosedBehind g k b beta
