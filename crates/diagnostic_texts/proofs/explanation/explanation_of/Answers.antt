use Rattle.std.proofs.Common.{◌∙◌, ap, sym}
use Rattle.std.specs.Prelude.{option_map}
use Rattle.diagnostic_texts.specs.Explained.{explanations, shown}
use Rattle.diagnostic_texts.proofs.explanation.explanation_of.Goals as goal

pub returns-in-Some : goal.returns-in-Some
unfolding explanations
returns-in-Some c = ap (option_map (λ row. shown row.now)) (sym c.in-Some.is) ∙ c.row_of.ensures

pub returns-in-None : goal.returns-in-None
unfolding explanations
returns-in-None c = ap (option_map (λ row. shown row.now)) (sym c.in-None.is) ∙ c.row_of.ensures
