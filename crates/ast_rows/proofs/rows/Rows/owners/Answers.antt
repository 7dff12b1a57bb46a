use Rattle.std.proofs.Common.{map, sym, ap, ◌∙◌}
use Rattle.source_meaning.specs.Rows.{Row}
use Rattle.ast_rows.specs.FunctionRows.{functions_before}
use Rattle.ast_rows.proofs.NodeColumns.{kinds_of}
use Rattle.ast_rows.proofs.rows.Rows.owners.Goals as goal

pub returns : goal.returns
returns c =
    let column = kinds_of 0 c.self.inside.kinds.items c.self.inside.parents.items c.self.inside.tokens.items c.self.inside.places.items c.self.invariant.0 c.self.invariant.1 c.self.invariant.2 in
    c.as_slice.ensures.value ∙ c.self.invariant.6 ∙ ap functions_before (sym column ∙ ap (map (λ (r : Row). r.kind)) c.self.view_is)
