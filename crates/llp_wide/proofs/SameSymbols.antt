-- Symbols and lists of them that are equal by a test.
use Rattle.std.proofs.Common.{◌≡◌, List, [], ◌∷◌, true, refl, ap}
use Rattle.std.specs.Cmp.Lexicographic.{pointwise}
use Rattle.std.proofs.lemmas.Bool.{eqb-true}
use Rattle.grammar_file.specs.declared.symbols.Symbol.{Symbol}
use Rattle.grammar_file.specs.declared.symbols.Symbol.TheVariants.{Terminal, Nonterminal}
use Rattle.grammar_file.specs.contracts.symbols.SymbolPartialEq.TheImpl.{eq-value}
use Rattle.ll1_sets.specs.Laws.FormTests.{both}

same_symbol : (s t : Symbol) → eq-value.it s t ≡ true → s ≡ t
same_symbol (Terminal a) (Terminal b) h = ap Terminal (eqb-true a b h)
same_symbol (Terminal a) (Nonterminal b) h = absurd (cc)
same_symbol (Nonterminal a) (Terminal b) h = absurd (cc)
same_symbol (Nonterminal a) (Nonterminal b) h = ap Nonterminal (eqb-true a b h)

pub same_symbols : (xs ys : List Symbol) → pointwise eq-value.it xs ys ≡ true → xs ≡ ys
same_symbols [] [] h = refl
same_symbols [] (y ∷ ys) h = absurd (cc)
same_symbols (x ∷ xs) [] h = absurd (cc)
same_symbols (x ∷ xs) (y ∷ ys) h =
    let k = both (eq-value.it x y) (pointwise eq-value.it xs ys) h in
    λ i. same_symbol x y k.0 i ∷ same_symbols xs ys k.1 i
