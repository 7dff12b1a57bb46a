use Rattle.rv_code.proofs.Lengths.{is_short, is_long}
use Rattle.rv_code.proofs.laws.used_layout.Goals as goal

pub returns-clause-short : goal.returns-clause-short
returns-clause-short c = is_short

pub returns-clause-long : goal.returns-clause-long
returns-clause-long c = is_long
