use Rattle.std.proofs.Common.{refl}
use Rattle.diagnostic_texts.specs.Explained.{explanations}
use Rattle.diagnostic_texts.proofs.laws.explanations_are_in_order.Goals as goal

pub returns : goal.returns
unfolding explanations
returns c = record { codes = refl; one_each = refl; short = refl }
