use Rattle.std.proofs.Common.{[], ◌∷◌, ◌∙◌, ap, map}
use Rattle.std.specs.Prelude.{codes}
use Rattle.source_meaning.specs.Rows.{Row}
use Rattle.pass_tables.specs.Tables.{kind_text, places, texts, type_or_dash}
use Rattle.pass_tables.proofs.Told.{map-map}
use Rattle.pass_tables.proofs.types.type_columns.Goals as goal

pub returns : goal.returns
returns c =
    let count = c.in_ok-places.ensures ∙ ap (places (codes "row")) c.len.ensures in
    let kinds = c.in_ok-kinds.ensures ∙ ap (texts (codes "kind")) (ap (map kind_text) c.kinds.ensures ∙ map-map kind_text (λ (r : Row). r.kind) c.args.rows.now) in
    let types = c.in_ok-types.ensures ∙ ap (texts (codes "type")) (ap (map type_or_dash) c.as_slice.ensures) in
    c.in_ok-vec.ensures.items ∙ (λ i. count i ∷ kinds i ∷ types i ∷ [])
