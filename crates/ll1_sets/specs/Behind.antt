-- What stands behind a symbol up to where b begins, by rules: FOLLOW with what is passed.
use Rattle.std.specs.Prelude.{◌≡◌, ℕ, List, [], ◌∷◌, ◌++◌, Some}
use Rattle.grammar_file.specs.declared.symbols.Symbol.{Symbol}
use Rattle.grammar_file.specs.declared.symbols.Symbol.TheVariants.{Terminal, Nonterminal}
use Rattle.grammar_file.specs.Grammar.{Grammar, Production, production, begin_mark, end_mark}
use Rattle.ll1_sets.specs.Predict.{IsNullable, IsFirst}

-- b begins the part that the last symbol of beta derives, and what stands above it derives nothing
abbrev pub BeginsAtLast : Grammar → List Symbol → ℕ → Type 0
BeginsAtLast g beta b = (above : List Symbol) × (last : Symbol) × (beta ≡ above ++ last ∷ []) × IsNullable g above × IsFirst g (last ∷ []) b

-- what is closed behind a symbol where b comes next
pub data Behind (g : Grammar) : Symbol → ℕ → List Symbol → Type 0 where
  -- b begins in the right side in which the symbol stands
  here : (p : ℕ) (rule : Production) (before after beta rest : List Symbol) (s : Symbol) (b : ℕ) → production g p ≡ Some rule → rule.right ≡ before ++ s ∷ after
      → after ≡ beta ++ rest → BeginsAtLast g beta b → Behind g s b beta
  -- the right side ends first, and b begins behind its left side
  through : (p : ℕ) (rule : Production) (before after beta : List Symbol) (s : Symbol) (b : ℕ) → production g p ≡ Some rule → rule.right ≡ before ++ s ∷ after
      → IsNullable g after → Behind g (Nonterminal rule.left) b beta → Behind g s b (after ++ beta)
  -- behind the start there is the end mark
  of_start : Behind g (Nonterminal 0) (end_mark g) (Terminal (end_mark g) ∷ [])
  -- behind the begin mark there are the start and the end mark
  of_begin : (beta rest : List Symbol) (b : ℕ) → Nonterminal 0 ∷ Terminal (end_mark g) ∷ [] ≡ beta ++ rest → BeginsAtLast g beta b → Behind g (Terminal begin_mark) b beta
