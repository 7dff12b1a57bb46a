-- The rows and the names of an analysis are those of its source's program.
use Rattle.std.proofs.Common.{◌≡◌, ◌∙◌, ℕ, List, length, sym, ap, subst}
use Rattle.source_meaning.specs.Grammar.{Tree, Prog, ast}
use Rattle.source_meaning.specs.Rows.{Row}
use Rattle.ast_rows.specs.NameRows.{NameRows}
use Rattle.front_end.specs.Front.{AreNamesOf, IsAnalysis}
use Rattle.front_end.specs.declared.analysis.Analysis.{Analysis}
use Rattle.back_end.specs.Coded.{AreRowsOf}

pub of_analysis : (text : List ℕ) (t : Tree Prog) (a : Analysis) (rows : List Row) (names : NameRows) → IsAnalysis text t a → rows ≡ a.rows → names ≡ a.names → AreRowsOf (ast t) rows names
of_analysis text t a rows names k e f = record {
  rows_are = e ∙ k.rows_are;
  names_are = subst (λ (n : NameRows). AreNamesOf n (ast t)) (sym f) k.names_are;
  meant_many = ap (λ (n : NameRows). length n.meant) f ∙ k.meant_many ∙ sym (ap length e);
  numbers_many = ap (λ (n : NameRows). length n.numbers) f ∙ k.numbers_many ∙ sym (ap length e);
}
