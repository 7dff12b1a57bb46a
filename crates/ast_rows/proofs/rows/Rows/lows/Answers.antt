use Rattle.ast_rows.proofs.NodeColumns.{parents_of}
use Rattle.ast_rows.proofs.rows.Rows.lows.Goals as goal

pub returns : goal.returns
returns c =
    let column = parents_of c.self.inside.kinds.items c.self.inside.parents.items c.self.inside.tokens.items c.self.inside.places.items c.self.invariant.0 c.self.invariant.1 c.self.invariant.2 c.self.invariant.3 in
    cc (column, c.as_slice.ensures.value, c.self.view_is, c.self.invariant.4)
