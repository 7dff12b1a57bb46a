use Rattle.std.proofs.Common.{subst}
use Rattle.std.proofs.lemmas.Result.{IfOk-weaker}
use Rattle.table_text.specs.Answers.{IsTableAnswer}
use Rattle.pareas_core.proofs.Meeting.{tables}
use Rattle.pareas_core.proofs.table.table.Goals as goal

pub returns : goal.returns
returns g c =
    let file = c.args.file.now in
    let answer : IsTableAnswer file c.args.entries c.args.word.now c.in_ok-answer.answer =
    subst (λ word. IsTableAnswer file c.args.entries word c.in_ok-answer.answer) c.spelling.ensures c.in_ok-answer.ensures in
    IfOk-weaker c.response.result _ _
    (λ d same. tables c.args.word.now c.args.entries file c.in_ok-answer.answer d (c.files_have_one_answer.ensures file c.args.entries c.args.word.now) answer same)
    c.response.ensures
