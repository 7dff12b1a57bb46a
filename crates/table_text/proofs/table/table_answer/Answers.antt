use Rattle.std.proofs.Common.{◌∙◌, sym, ap, subst, inl, inr, Err}
use Rattle.std.specs.Prelude.{option_map}
use Rattle.std.proofs.lemmas.Result.{IfOk-weaker}
use Rattle.grammar_file.specs.Spelling.{Spells}
use Rattle.table_text.specs.Answers.{IsTableAnswer, no_grammar, of_grammar}
use Rattle.table_text.specs.declared.answer.TableAnswer.TheVariants.{NoGrammar}
use Rattle.table_text.proofs.table.table_answer.Goals as goal

pub returns-in-Ok : goal.returns-in-Ok
returns-in-Ok g c = IfOk-weaker c.answered.result _ _ (λ answer is. of_grammar c.in-Ok.grammar c.in-Ok.ensures.ok is) c.answered.ensures

pub returns-in_ok-line-in-Err-2 : goal.returns-in_ok-line-in-Err-2
returns-in_ok-line-in-Err-2 g c =
    let is : Spells c.args.file.now (Err c.in-Err.fault) = elim c.in-Err.ensures.fault [ inl none ↦ absurd (c.ran_out_reading.ensures.no_other c.if-ran_out_reading.false none) | inr is ↦ is ] in
    subst (λ line. IsTableAnswer c.args.file.now c.args.entries (option_map (λ w. w.now) c.args.word) (NoGrammar line))
    (sym (c.new.ensures ∙ ap (λ v. v.items) c.into_bytes.ensures.value ∙ c.in_ok-line-in-Err-2.ensures.ok)) (no_grammar c.in-Err.fault is)
