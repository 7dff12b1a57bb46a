use Rattle.rv_code.proofs.Lengths.{widths}
use Rattle.rv_code.proofs.laws.widths.Goals as goal

pub returns : goal.returns
returns c = widths
