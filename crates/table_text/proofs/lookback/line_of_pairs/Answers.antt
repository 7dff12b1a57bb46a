use Rattle.std.proofs.Common.{◌∙◌, sym, subst, inl, inr}
use Rattle.llp_tables.specs.Tables.{IsTableFault}
use Rattle.table_text.specs.Answers.{IsConflict, behind_one}
use Rattle.table_text.proofs.lookback.line_of_pairs.Goals as goal

pub returns : goal.returns
returns c =
    let grammar = c.args.grammar.now in
    let fault = c.args.fault.now in
    let is : IsTableFault grammar fault = elim c.requires.fault [ inl none ↦ absurd (c.ran_out_of_pairs.ensures.no_other c.if-ran_out_of_pairs.false none) | inr is ↦ is ] in
    subst (IsConflict grammar) (sym (c.new.ensures ∙ c.in_ok-line.ensures)) (behind_one fault c.requires.lookback is)
