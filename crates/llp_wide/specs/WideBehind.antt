-- PSLS(z,a,b) by rules: what is closed behind a symbol where b comes next. It rests only on the terminal z that is matched last before the symbol's own part of the word.
use Rattle.std.specs.Prelude.{◌≡◌, ◌⊎◌, ℕ, ◌+◌, List, [], ◌∷◌, ◌++◌, length, Some}
use Rattle.grammar_file.specs.declared.symbols.Symbol.{Symbol}
use Rattle.grammar_file.specs.declared.symbols.Symbol.TheVariants.{Terminal, Nonterminal}
use Rattle.grammar_file.specs.Grammar.{Grammar, Production, production, begin_mark, end_mark}
use Rattle.grammar_file.specs.Derivation.{Derives, word_form}
use Rattle.grammar_file.specs.Drive.{first_stack}
use Rattle.ll1_sets.specs.Predict.{IsNullable}
use Rattle.ll1_sets.specs.Behind.{BeginsAtLast}
use Rattle.llp_wide.specs.Wide.{wide_whole}

-- the last terminal of a word, or else the one before it
abbrev pub last_behind : ℕ → List ℕ → ℕ
last_behind z [] = z
last_behind z (a ∷ word) = last_behind a word

-- y may be matched last behind z and what the form derives
abbrev pub IsEnding : Grammar → List Symbol → ℕ → ℕ → Type 0
IsEnding g form z y = (ps word : List ℕ) × Derives g form ps (word_form word) × (last_behind z word ≡ y)

-- the nonterminal may be replaced where z is matched last
abbrev pub IsEntered : Grammar → ℕ → ℕ → Type 0
IsEntered g z a = (ps x : List ℕ) × (rest : List Symbol) × Derives g (wide_whole g) ps (word_form (x ++ z ∷ []) ++ Nonterminal a ∷ rest)

-- where a symbol stands: in a right side that is entered with z0 matched last, it is reached with z matched last, and `after` stands behind it there
pub record IsWidePlace (g : Grammar) (z0 owner z : ℕ) (s : Symbol) (after : List Symbol) : Type 0 where
  pub p : ℕ
  pub rule : Production
  pub before : List Symbol
  pub rule_is : production g p ≡ Some rule
  pub left_is : rule.left ≡ owner
  pub right_is : rule.right ≡ before ++ s ∷ after
  pub entered : IsEntered g z0 owner
  pub ending : IsEnding g before z0 z

pub data WideBehind (g : Grammar) : ℕ → Symbol → ℕ → List Symbol → Type 0 where
  -- b begins in the right side in which the symbol stands
  here : (z0 owner z : ℕ) (s : Symbol) (after beta rest : List Symbol) (b : ℕ) → IsWidePlace g z0 owner z s after → after ≡ beta ++ rest → BeginsAtLast g beta b → WideBehind g z s b beta
  -- the right side ends first, and b begins behind its left side
  through : (z0 owner z : ℕ) (s : Symbol) (after beta : List Symbol) (b : ℕ) → IsWidePlace g z0 owner z s after → IsNullable g after → WideBehind g z0 (Nonterminal owner) b beta
      → WideBehind g z s b (after ++ beta)
  -- behind the start there is the end mark
  of_start : WideBehind g begin_mark (Nonterminal 0) (end_mark g) (Terminal (end_mark g) ∷ [])
  -- behind the second begin mark there are the start and the end mark
  of_begin : (beta rest : List Symbol) (b : ℕ) → first_stack g ≡ beta ++ rest → BeginsAtLast g beta b → WideBehind g begin_mark (Terminal begin_mark) b beta

-- stands for any terminal that is matched last: the number behind those of the terminals and the two marks
abbrev pub any_before : Grammar → ℕ
any_before g = length g.terminals + 2

-- the nonterminal may be replaced where that terminal, or any, is matched last
abbrev pub IsEnteredBy : Grammar → ℕ → ℕ → Type 0
IsEnteredBy g z a = IsEntered g z a ⊎ ((z ≡ any_before g) × (y : ℕ) × IsEntered g y a)

-- the same behind a nonterminal, where z may stand for any terminal that is matched last before it
abbrev pub BehindAny : Grammar → ℕ → Symbol → ℕ → List Symbol → Type 0
BehindAny g z s b beta = WideBehind g z s b beta ⊎ ((z ≡ any_before g) × (a : ℕ) × (s ≡ Nonterminal a) × (y : ℕ) × IsEntered g y a × WideBehind g y (Nonterminal a) b beta)
