-- FIRST, FOLLOW, predict sets and LL(1) (Aho, Lam, Sethi and Ullman, "FIRST and FOLLOW" and "LL(1) Grammars").
use Rattle.std.specs.Prelude.{◌≡◌, ◌≢◌, ℕ, ◌<◌, ◌≤◌, ◌⊎◌, List, [], ◌∷◌, ◌++◌, Option, Some, None, slice_index_or}
use Rattle.grammar_file.specs.declared.symbols.Symbol.{Symbol}
use Rattle.grammar_file.specs.declared.symbols.Symbol.TheVariants.{Terminal, Nonterminal}
use Rattle.grammar_file.specs.Grammar.{Grammar, Production, production, whole}
use Rattle.grammar_file.specs.Derivation.{Derives, word_form}

-- the form derives the empty word
abbrev pub IsNullable : Grammar → List Symbol → Type 0
IsNullable g form = (ps : List ℕ) × Derives g form ps []

-- b is in FIRST(form): the form derives one that begins with b
abbrev pub IsFirst : Grammar → List Symbol → ℕ → Type 0
IsFirst g form b = (ps : List ℕ) × (rest : List Symbol) × Derives g form ps (Terminal b ∷ rest)

-- b is in FOLLOW(A): the text with its marks derives a form in which b may stand behind A
abbrev pub IsFollow : Grammar → ℕ → ℕ → Type 0
IsFollow g a b = (ps x : List ℕ) × (rest : List Symbol) × Derives g (whole g) ps (word_form x ++ Nonterminal a ∷ rest) × IsFirst g rest b

-- the production p of A predicts b
abbrev pub IsPredicted : Grammar → ℕ → ℕ → ℕ → Type 0
IsPredicted g a p b = (rule : Production) × (production g p ≡ Some rule) × (rule.left ≡ a) × (IsFirst g rule.right b ⊎ (IsNullable g rule.right × IsFollow g a b))

-- no two productions of one nonterminal predict one terminal
abbrev pub IsLl1 : Grammar → Type 0
IsLl1 g = (a p q b : ℕ) → IsPredicted g a p b → IsPredicted g a q b → p ≡ q

-- A derives, in one or more steps, a form that begins with A
abbrev pub IsLeftRecursive : Grammar → ℕ → Type 0
IsLeftRecursive g a = (p : ℕ) × (ps : List ℕ) × (rest : List Symbol) × Derives g (Nonterminal a ∷ []) (p ∷ ps) (Nonterminal a ∷ rest)

-- A is the least left-recursive nonterminal
abbrev pub IsLeastLeftRecursive : Grammar → ℕ → Type 0
IsLeastLeftRecursive g a = IsLeftRecursive g a × ((n : ℕ) → n < a → ¬ IsLeftRecursive g n)

abbrev pub IsNotLeftRecursive : Grammar → Type 0
IsNotLeftRecursive g = (a : ℕ) → ¬ IsLeftRecursive g a

-- the least A, then b, then the two least productions
abbrev pub HasConflict : Grammar → ℕ → ℕ → Type 0
HasConflict g a b = (p q : ℕ) × (p ≢ q) × IsPredicted g a p b × IsPredicted g a q b

pub record IsLeastConflict (g : Grammar) (a b p1 p2 : ℕ) : Type 0 where
  pub first : IsPredicted g a p1 b
  pub second : IsPredicted g a p2 b
  pub in_order : p1 < p2
  pub no_lesser_production : (p : ℕ) → IsPredicted g a p b → p ≢ p1 → p2 ≤ p
  pub no_lesser_terminal : (c : ℕ) → c < b → ¬ HasConflict g a c
  pub no_lesser_nonterminal : (n c : ℕ) → n < a → ¬ HasConflict g n c

-- the production of each nonterminal that b predicts, where there is one
pub record ArePredictions (g : Grammar) (b : ℕ) (predictions : List (Option ℕ)) : Type 0 where
  pub sound : (a p : ℕ) → slice_index_or predictions a None ≡ Some p → IsPredicted g a p b
  pub complete : (a p : ℕ) → IsPredicted g a p b → (q : ℕ) × (slice_index_or predictions a None ≡ Some q)
