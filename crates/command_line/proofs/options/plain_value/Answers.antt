use Rattle.std.proofs.Common.{◌≡◌, ◌∙◌, ap, Some, rules}
use Rattle.clap.specs.Words.{Rule, rule_of}
use Rattle.clap.specs.declared.builder.action.ArgAction.TheVariants.{Set}
use Rattle.command_line.proofs.options.plain_value.Goals as goal

pub returns-clause-rule : goal.returns-clause-rule
returns-clause-rule c =
    let given = c.value_parser.ensures.given in
    let parser : c.value_parser.result.value_parser ≡ Some c.args.values = given.1 ∙ ap Some (search rules) in
    let other = c.value_parser.ensures.others in
    ap rule_of c.help.ensures
    ∙ ap rule_of other
    ∙ ap (λ p. record (rule_of c.value_name.result) { parser = p }) parser
    ∙ ap (λ (r : Rule). record r { parser = Some c.args.values }) (ap rule_of c.value_name.ensures ∙ ap (λ (r : Rule). record r { value_names = 1 }) (ap rule_of c.action.ensures ∙ ap (λ (r : Rule). record r { action = Some Set }) c.new.ensures.rule))
