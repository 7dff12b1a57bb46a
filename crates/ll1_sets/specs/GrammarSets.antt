-- The sets of a grammar that is LL(1), and why a grammar isn't.
use Rattle.std.specs.Prelude.{[], ◌∷◌}
use Rattle.grammar_file.specs.declared.symbols.Symbol.TheVariants.{Nonterminal}
use Rattle.grammar_file.specs.Grammar.{Grammar, IsWellFormed}
use Rattle.grammar_file.specs.Marks.{AreMarksOf}
use Rattle.grammar_file.specs.Spelling.{IsReduced}
use Rattle.ll1_sets.specs.Predict.{IsNullable, IsLl1, IsNotLeftRecursive, IsLeastLeftRecursive, IsLeastConflict}
use Rattle.ll1_sets.specs.Table.{IsLl1Table}
use Rattle.ll1_sets.specs.declared.grammar_sets.Ll1Sets.{Ll1Sets}
use Rattle.ll1_sets.specs.declared.table.Ll1Fault.{Ll1Fault}
use Rattle.ll1_sets.specs.declared.table.Ll1Fault.TheVariants.{LeftRecursive, Conflict, NoMemory}

-- NULL and the parse table of a grammar that isn't left-recursive, and is LL(1)
pub record AreLl1Sets (g : Grammar) (sets : Ll1Sets) : Type 0 where
  pub well_formed : IsWellFormed g
  pub reduced : IsReduced g
  pub not_left_recursive : IsNotLeftRecursive g
  pub ll1 : IsLl1 g
  pub nullable : AreMarksOf g (λ a. IsNullable g (Nonterminal a ∷ [])) sets.nullable.items
  pub table : IsLl1Table g sets.table

-- the least left-recursive nonterminal, else the least conflict of predictions
abbrev pub IsLl1Fault : Grammar → Ll1Fault → Type 0
IsLl1Fault g (LeftRecursive a) = IsLeastLeftRecursive g a
IsLl1Fault g (Conflict k) = IsNotLeftRecursive g × IsLeastConflict g k.nonterminal k.b k.p1 k.p2
IsLl1Fault g NoMemory = ⊥
