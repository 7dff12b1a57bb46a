use Rattle.std.proofs.Common.{◌∙◌, sym}
use Rattle.grammar_certificate.proofs.Parts.{parts_of}
use Rattle.grammar_certificate.proofs.check.accepts.Goals as goal

pub returns-clause-ll1 : goal.returns-clause-ll1
returns-clause-ll1 c = λ h.
    let k = c.args.certificate.now in
    let g = c.args.grammar.now in
    c.accepts_is_ll1_and_llp.ensures.ll1 k g c.parts_pass.ensures.well_formed (parts_of k g (sym c.parts_pass.ensures.parts ∙ h))

pub returns-clause-llp : goal.returns-clause-llp
returns-clause-llp c = λ h.
    let k = c.args.certificate.now in
    let g = c.args.grammar.now in
    c.accepts_is_ll1_and_llp.ensures.llp k g c.parts_pass.ensures.well_formed (parts_of k g (sym c.parts_pass.ensures.parts ∙ h))
