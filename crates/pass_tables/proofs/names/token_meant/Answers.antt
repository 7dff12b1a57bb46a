use Rattle.std.proofs.Common.{◌∙◌, ap}
use Rattle.pass_tables.specs.Tables.{token_in}
use Rattle.pass_tables.proofs.Told.{meant_told}
use Rattle.pass_tables.proofs.names.token_meant.Goals as goal

pub returns : goal.returns
returns c = c.token_of.ensures ∙ ap (token_in c.args.rows.now) c.kept_row.ensures ∙ meant_told c.args.rows.now c.args.names.now.meant c.args.k c.requires.few
