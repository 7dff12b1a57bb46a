-- The program that is compiled, with its constants folded or as it is: its rows and names.
use Rattle.std.proofs.Common.{◌≡◌, ℕ, Bool, false, List, length}
use Rattle.source_meaning.specs.Ast.{Program}
use Rattle.source_meaning.specs.Grammar.{Tree, Prog, ast}
use Rattle.source_meaning.specs.Lexemes.{tokens}
use Rattle.source_meaning.specs.Rows.{Row}
use Rattle.ast_rows.specs.NameRows.{NameRows}
use Rattle.front_end.specs.Front.{IsAnalysis, IsChecked}
use Rattle.front_end.specs.declared.analysis.Analysis.{Analysis}
use Rattle.verdict.specs.Verdict.{folded_if}
use Rattle.back_end.specs.Coded.{AreRowsOf, IsClean}
use Rattle.back_end.specs.Laws.Analyzed.{of_analysis}

module _ (fold : Bool) (text : List ℕ) (t : Tree Prog) (a : Analysis) (k : IsAnalysis text t a) (old rows : List Row) (named names : NameRows) (rows_are : old ≡ a.rows) (names_are : named ≡ a.names)
    (clean : (b : Bool) (text : List ℕ) (t : Tree Prog) → IsChecked text t → IsClean (length (tokens text)) (folded_if b (ast t)))
    (compiled : (p : Program) (end : ℕ) → IsClean end p → AreRowsOf p old named → AreRowsOf (folded_if fold p) rows names) where
  -- the rows and the names of the program that is compiled
  pub rows_of : AreRowsOf (folded_if fold (ast t)) rows names
  rows_of = compiled (ast t) (length (tokens text)) (clean false text t k.checked) (of_analysis text t a old named k rows_are names_are)
