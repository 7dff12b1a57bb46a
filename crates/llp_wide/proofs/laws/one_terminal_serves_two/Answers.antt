use Rattle.llp_wide.proofs.WideRules.{within, wide_llp}
use Rattle.llp_wide.proofs.laws.one_terminal_serves_two.Goals as goal

pub returns-clause-within : goal.returns-clause-within
returns-clause-within c = within

pub returns-clause-llp : goal.returns-clause-llp
returns-clause-llp c = wide_llp
