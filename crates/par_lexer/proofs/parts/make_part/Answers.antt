use Rattle.std.proofs.lemmas.Result.{IfOk-weaker}
use Rattle.par_lexer.proofs.parts.make_part.Goals as goal

pub returns-in-From : goal.returns-in-From
returns-in-From c = IfOk-weaker c.part_from.result _ _ (λ part is. is c.args.from c.in-From.ensures.0) c.part_from.ensures
