use Rattle.std.proofs.Common.{[], ◌∷◌, ◌∙◌, ap, map}
use Rattle.std.specs.Prelude.{codes}
use Rattle.source_meaning.specs.Rows.{Row}
use Rattle.pass_tables.specs.Tables.{kind_text, places, texts}
use Rattle.pass_tables.proofs.Told.{map-map}
use Rattle.pass_tables.proofs.pieces.place_columns.Goals as goal

pub returns : goal.returns
returns c =
    let count = c.in_ok-numbers_of_rows.ensures ∙ ap (places (codes "row")) c.len.ensures in
    let kinds = c.in_ok-kinds.ensures ∙ ap (texts (codes "kind")) (ap (map kind_text) c.kinds.ensures ∙ map-map kind_text (λ (r : Row). r.kind) c.args.rows.now) in
    c.in_ok-vec.ensures.items ∙ (λ i. count i ∷ kinds i ∷ c.in_ok-depths.ensures i ∷ c.in_ok-sizes.ensures i ∷ c.in_ok-firsts.ensures i ∷ [])
