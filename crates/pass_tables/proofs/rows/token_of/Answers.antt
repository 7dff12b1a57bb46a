use Rattle.std.proofs.Common.{◌∙◌, ap}
use Rattle.ast_rows.specs.NodeRows.{token_of}
use Rattle.pass_tables.proofs.Told.{told_at}
use Rattle.pass_tables.proofs.rows.token_of.Goals as goal

pub returns : goal.returns
returns c = c.told.ensures ∙ ap token_of c.kept_token.ensures ∙ told_at c.args.rows.now c.args.k c.tokens_are_told.ensures
