use Rattle.std.proofs.Common.{◌∙◌, sym, subst, inl, inr}
use Rattle.llp_wide.specs.WideFaults.{IsWideFault}
use Rattle.table_text.specs.Answers.{IsConflict, behind_two}
use Rattle.table_text.proofs.lookback.line_of_triples.Goals as goal

pub returns : goal.returns
returns c =
    let grammar = c.args.grammar.now in
    let fault = c.args.fault.now in
    let is : IsWideFault grammar fault = elim c.requires.fault [ inl none ↦ absurd (c.ran_out_of_triples.ensures.no_other c.if-ran_out_of_triples.false none) | inr is ↦ is ] in
    subst (IsConflict grammar) (sym (c.new.ensures ∙ c.in_ok-line.ensures)) (behind_two fault c.requires.lookback is)
