use Rattle.std.proofs.Common.{◌≡◌, Some, length, subst, ◌∙◌}
use Rattle.par_lexer.specs.Stretches.{AreTokens, Tells}
use Rattle.par_lexer.proofs.Running.{bytes_of}
use Rattle.par_lexer.proofs.Joining.{awaits_same}
use Rattle.par_lexer.proofs.Answering.{no_fault, all_tokens, told_fault}
use Rattle.par_lexer.proofs.lexer.answer.Goals as goal

pub into_tokens-requires : goal.into_tokens-requires
into_tokens-requires c = awaits_same _ _ _ _ _ (AreTokens.columns (subst (Tells c.args.text.now 0 (length c.args.text.now)) c.in-Tokens.is c.requires.told))

pub returns-in-Tokens-clause-ok : goal.returns-in-Tokens-clause-ok
returns-in-Tokens-clause-ok c =
    let text = c.args.text.now in
    let bytes = bytes_of text c.type_inv.text in
    let made = c.in-Tokens.columns in
    let are : AreTokens text 0 (length text) made = subst (Tells text 0 (length text)) c.in-Tokens.is c.requires.told in
    (no_fault text bytes made are, all_tokens text bytes made are c.into_tokens.result c.into_tokens.ensures)

pub returns-in-Fault-clause-fault : goal.returns-in-Fault-clause-fault
returns-in-Fault-clause-fault c code at e =
    let text = c.args.text.now in
    let same_code : c.in-Fault.field-0.code ≡ code = cc in
    let same_place : c.in-Fault.field-0.at ≡ at = cc in
    told_fault text (bytes_of text c.type_inv.text) code at
    (subst (Tells text 0 (length text)) c.in-Fault.is c.requires.told ∙ (λ i. Some (same_code i, same_place i)))
