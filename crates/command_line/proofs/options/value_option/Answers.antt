use Rattle.std.proofs.Common.{◌∙◌, ap, Some}
use Rattle.clap.specs.Words.{Rule, rule_of}
use Rattle.command_line.proofs.options.value_option.Goals as goal

pub returns-clause-rule : goal.returns-clause-rule
returns-clause-rule c = ap rule_of c.long.ensures ∙ ap (λ (r : Rule). record r { long = Some c.args.described.name.now }) c.plain_value.ensures.rule
