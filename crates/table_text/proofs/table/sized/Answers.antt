use Rattle.std.proofs.lemmas.Result.{IfOk-weaker}
use Rattle.table_text.proofs.Told.{told_sizes}
use Rattle.table_text.proofs.table.sized.Goals as goal

pub returns : goal.returns
returns c = IfOk-weaker c.sizes.result _ _ (λ text is. told_sizes c.args.grammar.now c.entries.result text.items (c.entries.ensures c.args.grammar.now c.requires) is) c.sizes.ensures
