use Rattle.llp_wide.proofs.WideRules.{by_rules, by_derivations}
use Rattle.llp_wide.proofs.laws.wide_look_back_by_rules.Goals as goal

pub returns-clause-by_rules : goal.returns-clause-by_rules
returns-clause-by_rules c = by_rules

pub returns-clause-by_derivations : goal.returns-clause-by_derivations
returns-clause-by_derivations c = by_derivations
