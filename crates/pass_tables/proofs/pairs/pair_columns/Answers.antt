use Rattle.std.proofs.Common.{[], ◌∷◌, ◌∙◌}
use Rattle.pass_tables.proofs.pairs.pair_columns.Goals as goal

pub returns : goal.returns
returns c =
    c.in_ok-vec.ensures.items
    ∙ (λ i. c.in_ok-places.ensures i ∷ c.in_ok-before.ensures i ∷ c.in_ok-next.ensures i ∷ c.in_ok-closes.ensures i ∷ c.in_ok-opens.ensures i ∷ c.in_ok-productions.ensures i ∷ [])
