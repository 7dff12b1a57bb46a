use Rattle.std.proofs.Common.{[], ◌∷◌, ◌∙◌}
use Rattle.pass_tables.proofs.code.code_columns.Goals as goal

pub returns : goal.returns
returns c =
    c.in_ok-vec.ensures.items ∙ (λ i. c.in_ok-places.ensures i ∷ c.in_ok-addresses.ensures i ∷ c.in_ok-codes.ensures i ∷ c.in_ok-instructions.ensures i ∷ [])
