-- How many productions derive nothing from a form, and how many a piece has.
use Rattle.std.specs.Prelude.{◌≡◌, ℕ, ◌^◌, ◌-◌, List, [], ◌∷◌, length, map, min, Bool, true, Option, Some, None, is_some, slice_get, slice_index_or}
use Rattle.grammar_file.specs.declared.symbols.Symbol.{Symbol}
use Rattle.grammar_file.specs.declared.symbols.Symbol.TheVariants.{Terminal, Nonterminal}
use Rattle.grammar_file.specs.Grammar.{Grammar, Production, production}
use Rattle.grammar_file.specs.Derivation.{Derives}
use Rattle.grammar_file.specs.Marks.{AreMarksOf}
use Rattle.ll1_sets.specs.Marking.{all_vanish, IsNextBy}
use Rattle.ll1_sets.specs.Predict.{IsNullable, IsFirst, IsLl1, ArePredictions}
use Rattle.llp_tables.specs.Lookback.{IsLookback, IsPiece}

-- a count stops at the greatest number of 64 bits
abbrev pub saturated : ℕ → ℕ
saturated n = min n (2 ^ 64 - 1)

-- ---- how many derive nothing

-- a derivation of nothing from the form has this many productions
abbrev pub IsEmptyLength : Grammar → List Symbol → ℕ → Type 0
IsEmptyLength g form n = (ps : List ℕ) × Derives g form ps [] × (n ≡ saturated (length ps))

-- the counts that are there are those of their nonterminals
abbrev pub AreCounts : Grammar → List (Option ℕ) → Type 0
AreCounts g lengths = (a n : ℕ) → slice_index_or lengths a None ≡ Some n → IsEmptyLength g (Nonterminal a ∷ []) n

-- which nonterminals have a count
abbrev pub counted : List (Option ℕ) → List Bool
counted lengths = map is_some lengths

-- each nonterminal that derives nothing has its count, and no other one has any
pub record AreEmptyLengths (g : Grammar) (lengths : List (Option ℕ)) : Type 0 where
  pub which : AreMarksOf g (λ a. IsNullable g (Nonterminal a ∷ [])) (counted lengths)
  pub counts : AreCounts g lengths

-- the count of a symbol, where there is one
abbrev pub length_of : List (Option ℕ) → Symbol → Option ℕ
length_of lengths (Terminal a) = None
length_of lengths (Nonterminal a) = slice_index_or lengths a None

-- each symbol of the form has a count, and by these n is the form's
pub record IsSum (lengths : List (Option ℕ)) (form : List Symbol) (n : ℕ) : Type 0 where
  pub vanish : all_vanish (counted lengths) form ≡ true
  pub count : (g : Grammar) → AreCounts g lengths → IsEmptyLength g form n

-- a nonterminal has no count, though the symbols of a right side of its own have theirs, and by these n is its count
pub record IsNextLength (productions : List Production) (lengths : List (Option ℕ)) (a n : ℕ) : Type 0 where
  pub next : IsNextBy (all_vanish (counted lengths)) productions (counted lengths) a
  pub count : (g : Grammar) → g.productions ≡ productions → AreCounts g lengths → IsEmptyLength g (Nonterminal a ∷ []) n

-- ---- how many a piece has

-- the right side of the production that is predicted of the nonterminal at a place of a form
pub record IsPredictedRight (g : Grammar) (predictions : List (Option ℕ)) (form : List Symbol) (place : ℕ) (right : List Symbol) : Type 0 where
  pub nonterminal : ℕ
  pub number : ℕ
  pub rule : Production
  pub symbol_is : slice_get form place ≡ Some (Nonterminal nonterminal)
  pub number_is : slice_index_or predictions nonterminal None ≡ Some number
  pub rule_is : production g number ≡ Some rule
  pub right_is : right ≡ rule.right

-- there is none
abbrev pub HasNoPredictedRight : Grammar → List (Option ℕ) → List Symbol → ℕ → Type 0
HasNoPredictedRight g predictions form place = (right : List Symbol) → ¬ IsPredictedRight g predictions form place right

-- the grammar is LL(1), the symbols are closed by a piece for b, and the sets are those of b
pub record IsPieceOf (g : Grammar) (first : List Bool) (predictions : List (Option ℕ)) (b : ℕ) (closes : List Symbol) : Type 0 where
  pub ll1 : IsLl1 g
  pub first_is : AreMarksOf g (λ a. IsFirst g (Nonterminal a ∷ []) b) first
  pub predictions_are : ArePredictions g b predictions
  pub member : (a : ℕ) × IsLookback g a b closes

-- n is how many productions the piece for b has that closes these symbols
abbrev pub IsPieceLength : Grammar → ℕ → List Symbol → ℕ → Type 0
IsPieceLength g b closes n = (opens : List Symbol) (ps : List ℕ) → IsPiece g b closes opens ps → n ≡ saturated (length ps)
