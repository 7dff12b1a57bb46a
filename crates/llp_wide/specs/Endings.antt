-- What a form may end with, by marks on nonterminals, and what is matched last behind it.
use Rattle.std.specs.Prelude.{◌≡◌, ℕ, ◌<◌, ◌+◌, List, [], ◌∷◌, ◌++◌, length, Bool, false, ◌==◌, ◌&&◌, ◌||◌, if◌then◌else◌, Option, Some, None, slice_get}
use Rattle.grammar_file.specs.declared.symbols.Symbol.{Symbol}
use Rattle.grammar_file.specs.declared.symbols.Symbol.TheVariants.{Nonterminal}
use Rattle.grammar_file.specs.Grammar.{Grammar}
use Rattle.grammar_file.specs.Derivation.{Derives, word_form}
use Rattle.grammar_file.specs.Marks.{AreMarksOf}
use Rattle.ll1_sets.specs.Marking.{all_vanish, starts}
use Rattle.llp_wide.specs.declared.endings.LastMarks.{LastMarks}

-- y is in LAST(form): the form derives a word that ends with y
abbrev pub IsLast : Grammar → List Symbol → ℕ → Type 0
IsLast g form y = (ps word : List ℕ) × Derives g form ps (word_form (word ++ y ∷ []))

-- what the form derives may end with y, by the marks on the nonterminals of which the same is known
abbrev pub finishes : List Bool → List Bool → ℕ → List Symbol → Bool
finishes nullable last y [] = false
finishes nullable last y (s ∷ form) = (starts last y s && all_vanish nullable form) || finishes nullable last y form

-- y may be matched last behind z and what the form derives
abbrev pub is_ending : List Bool → List Bool → ℕ → ℕ → List Symbol → Bool
is_ending nullable last z y form = finishes nullable last y form || (z == y && all_vanish nullable form)

abbrev pub marks_in : Option LastMarks → List Bool
marks_in None = []
marks_in (Some e) = e.marks.items

-- the marks of the nonterminals that may end with y
abbrev pub marks_at : List LastMarks → ℕ → List Bool
marks_at all y = marks_in (slice_get all y)

-- y is matched last behind the form: in it where z stands for any terminal, the number behind all, and else before it
abbrev pub is_reached : List Bool → List LastMarks → ℕ → ℕ → List Symbol → Bool
is_reached nullable all z y form = if z == length all then finishes nullable (marks_at all y) y form else ((z == y) && all_vanish nullable form)

-- for each terminal of the grammar, and its two marks, the nonterminals that have it in LAST
pub record AreEndings (g : Grammar) (all : List LastMarks) : Type 0 where
  pub count : length all ≡ length g.terminals + 2
  pub marks : (y : ℕ) → y < length g.terminals + 2 → AreMarksOf g (λ a. IsLast g (Nonterminal a ∷ []) y) (marks_at all y)
