use Rattle.std.proofs.Common.{◌≡◌, ◌∙◌, ◌++◌, ap, sym, rules, true, Some}
use Rattle.std.proofs.lemmas.Result.{IfOk-weaker}
use Rattle.diagnostic_texts.specs.Explained.{example_at, example_text, explained_by, indented}
use Rattle.diagnostic_texts.proofs.text.push_example.Goals as goal

pub returns-in_ok-answer-in-Some : goal.returns-in_ok-answer-in-Some
returns-in_ok-answer-in-Some c =
    let inside = c.explanation.inside in
    let at_is : inside.at ≡ Some (c.in-Some.line, c.in-Some.column) = search rules in
    let view = explained_by inside.code inside.meaning.now inside.place.now inside.example.now inside.at inside.mended.now in
    let answer_is : c.deref.result.now ≡ c.in_ok-answer-in-Some.answer.bytes.items = search rules in
    let shown = ap (λ a. indented true inside.example.now ++ a) (answer_is ∙ c.in_ok-answer-in-Some.ensures) ∙ ap (example_at view) (sym at_is) ∙ ap example_text c.explanation.view_is in
    IfOk-weaker c.push_source.result _ _ (λ _ h. h ∙ ap (λ t. c.args.text.now.items ++ t) shown) c.push_source.ensures
