-- The LL(1) parse table (Aho, Lam, Sethi and Ullman, "LL(1) Grammars"): a column for each terminal.
use Rattle.std.specs.Prelude.{◌≡◌, ℕ, List, [], ◌∷◌, length, Bool, Option, Some, slice_get}
use Rattle.grammar_file.specs.declared.symbols.Symbol.TheVariants.{Nonterminal}
use Rattle.grammar_file.specs.Grammar.{Grammar}
use Rattle.grammar_file.specs.Marks.{AreMarksOf}
use Rattle.ll1_sets.specs.Predict.{IsFirst, ArePredictions}
use Rattle.ll1_sets.specs.Width.{width_of}

-- marks of the nonterminals that begin with a terminal, and the production of each that it predicts
pub record Column : Type 0 where
  pub first : List Bool
  pub predictions : List (Option ℕ)

-- the column of the terminal b
pub record IsColumn (g : Grammar) (b : ℕ) (column : Column) : Type 0 where
  pub first : AreMarksOf g (λ a. IsFirst g (Nonterminal a ∷ []) b) column.first
  pub predictions : ArePredictions g b column.predictions

-- a column for each terminal, by number, the two marks among them
pub record IsLl1Table (g : Grammar) (table : List Column) : Type 0 where
  pub width : length table ≡ width_of g
  pub columns : (b : ℕ) (column : Column) → slice_get table b ≡ Some column → IsColumn g b column
