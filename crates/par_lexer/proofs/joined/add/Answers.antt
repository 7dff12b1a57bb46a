use Rattle.std.proofs.Common.{subst, ◌∙◌}
use Rattle.par_lexer.specs.Stretches.{Tells}
use Rattle.par_lexer.proofs.Joining.{tokens_more}
use Rattle.par_lexer.proofs.joined.add.Goals as goal

pub returns-in_ok-append-in-Tokens : goal.returns-in_ok-append-in-Tokens
returns-in_ok-append-in-Tokens c =
    let text = c.args.text.now in
    tokens_more text 0 c.args.from c.args.to c.args.columns.now c.in-Tokens.more c.append.new.self c.in_ok-append-in-Tokens.ensures c.requires.columns
    (subst (Tells text c.args.from c.args.to) c.in-Tokens.is c.requires.told)

pub returns-in-Fault : goal.returns-in-Fault
returns-in-Fault c = c.requires.columns.faultless ∙ subst (Tells c.args.text.now c.args.from c.args.to) c.in-Fault.is c.requires.told
