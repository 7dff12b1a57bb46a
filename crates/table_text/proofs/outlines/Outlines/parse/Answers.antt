-- By the pieces of which these are the outlines.
use Rattle.std.proofs.Common.{◌∙◌, List, ℕ, subst}
use Rattle.glue_summary.specs.declared.fault.ParseFault.{ParseFault}
use Rattle.glue_summary.specs.declared.fault.ParseFault.TheVariants.{Syntax, NoMemory}
use Rattle.glue_summary.specs.Pieces.{at_begin}
use Rattle.glue_summary.specs.Stretch.{IsGlueFault, ended_by}
use Rattle.table_text.specs.ByLookback.{IsWordFault}
use Rattle.table_text.specs.Members.{members_of}
use Rattle.table_text.specs.Outlines.{outline_end, outlines_of}
use Rattle.table_text.specs.Readings.{AreWritten}
use Rattle.table_text.proofs.Growing.{handed_on}
use Rattle.table_text.proofs.Outlining.{whole_pieces, are_whole, same_fault, glued}
use Rattle.table_text.proofs.outlines.Outlines.parse.Goals as goal

pub returns-in_err-meet-clause-fault : goal.returns-in_err-meet-clause-fault
returns-in_err-meet-clause-fault g c = handed_on (IsWordFault c.args.grammar.now c.args.word.now) c.from_residual.result c.in_err-meet.field-0.0 c.from_residual.ensures.1 (told c.in_err-meet.field-0.0 c.in_err-meet.ensures.fault)
  where
    told : (fault : ParseFault) → IsGlueFault (outlines_of c.args.self.now) (outline_end c.args.self.now) (ended_by (outline_end c.args.self.now) c.args.word.now) fault → IsWordFault c.args.grammar.now c.args.word.now fault
    told NoMemory h = tt
    told (Syntax at) h = c.pieces_make_the_parse.ensures.fault c.args.grammar.now (whole_pieces c.args.grammar.now c.requires.formed c.args.self.now c.requires.outlines) (are_whole c.args.grammar.now c.requires.formed c.args.self.now c.requires.outlines)
        c.requires.formed c.requires.reduced c.args.word.now at (same_fault c.args.grammar.now c.requires.formed c.args.self.now c.requires.outlines c.args.word.now at h)

pub returns-clause-ok : goal.returns-clause-ok
returns-clause-ok g c =
    let grammar = c.args.grammar.now in
    let word = c.args.word.now in
    let o = c.args.self.now in
    let ps : List ℕ = c.in_ok-productions.productions.items in
    let written : AreWritten grammar (members_of o.sets) at_begin (ended_by (outline_end o) word) ps =
    subst (λ (tokens : List ℕ). AreWritten grammar (members_of o.sets) at_begin tokens ps) (c.as_slice.ensures.value ∙ c.in_ok-tokens.ensures) c.in_ok-productions.ensures in
    c.pieces_make_the_parse.ensures.ok grammar (whole_pieces grammar c.requires.formed o c.requires.outlines) (are_whole grammar c.requires.formed o c.requires.outlines) c.requires.formed word ps
    (glued grammar c.requires.formed o c.requires.outlines word ps c.in_ok-meet.ensures.ok written)
