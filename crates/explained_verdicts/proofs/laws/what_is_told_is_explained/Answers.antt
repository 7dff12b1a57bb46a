use Rattle.explained_verdicts.proofs.Verdicts.{diagnostic_explained, limit_explained}
use Rattle.explained_verdicts.proofs.laws.what_is_told_is_explained.Goals as goal

pub returns : goal.returns
returns c =
    let are = c.explanations_are_in_order.ensures.codes in
    record { diagnostics = diagnostic_explained are; limits = limit_explained are }
