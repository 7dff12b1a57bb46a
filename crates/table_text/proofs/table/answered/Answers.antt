use Rattle.std.proofs.Common.{subst}
use Rattle.table_text.specs.Answers.{conflicting}
use Rattle.table_text.specs.ByLookback.{IsUntabled}
use Rattle.table_text.proofs.table.answered.Goals as goal

pub returns-in-Err-Conflict : goal.returns-in-Err-Conflict
returns-in-Err-Conflict g c = conflicting (subst (IsUntabled c.args.grammar.now) c.in-Err-Conflict.field-0-is c.in-Err-Conflict.ensures.untabled)
