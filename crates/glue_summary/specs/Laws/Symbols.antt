-- The test of two symbols holds of equal ones alone.
use Rattle.std.proofs.Common.{◌≡◌, true, refl, ap, arith}
use Rattle.std.proofs.lemmas.Bool.{eqb-true, eq-eqb}
use Rattle.grammar_file.specs.declared.symbols.Symbol.{Symbol}
use Rattle.grammar_file.specs.declared.symbols.Symbol.TheVariants.{Terminal, Nonterminal}
use Rattle.glue_summary.specs.Glue.{symbol_eq}

pub symbol_eq-true : (x y : Symbol) → symbol_eq x y ≡ true → x ≡ y
symbol_eq-true (Terminal a) (Terminal b) e = ap Terminal (eqb-true a b e)
symbol_eq-true (Nonterminal a) (Nonterminal b) e = ap Nonterminal (eqb-true a b e)
symbol_eq-true (Terminal a) (Nonterminal b) e = grind arith
symbol_eq-true (Nonterminal a) (Terminal b) e = grind arith

pub symbol_eq-same : (x : Symbol) → symbol_eq x x ≡ true
symbol_eq-same (Terminal a) = eq-eqb a a refl
symbol_eq-same (Nonterminal a) = eq-eqb a a refl
