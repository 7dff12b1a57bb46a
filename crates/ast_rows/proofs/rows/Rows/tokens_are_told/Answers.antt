use Rattle.std.proofs.Common.{subst}
use Rattle.ast_rows.specs.NodeRows.{AreTold}
use Rattle.ast_rows.proofs.NodeColumns.{told}
use Rattle.ast_rows.proofs.rows.Rows.tokens_are_told.Goals as goal

pub returns : goal.returns
returns c = subst AreTold c.self.view_is (told 0 c.self.inside.kinds.items c.self.inside.parents.items c.self.inside.tokens.items c.self.inside.places.items)
