use Rattle.std.proofs.Common.{[], ◌∷◌, ◌∙◌}
use Rattle.pass_tables.proofs.parse.parse_columns.Goals as goal

pub returns : goal.returns
returns c = c.in_ok-vec.ensures.items ∙ (λ i. c.in_ok-places.ensures i ∷ c.in_ok-numbers.ensures i ∷ c.in_ok-rules.ensures i ∷ [])
