use Rattle.command_line.proofs.Matched.{asked_code}
use Rattle.command_line.proofs.laws.asked_codes_are_explained.Goals as goal

pub returns : goal.returns
returns c = asked_code
