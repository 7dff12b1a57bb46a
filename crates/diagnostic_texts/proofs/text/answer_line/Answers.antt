use Rattle.std.proofs.Common.{◌∙◌, ◌++◌, [], ◌∷◌, codes}
use Rattle.std.proofs.lemmas.Result.{IfOk-weaker}
use Rattle.std.specs.Prelude.{decimal}
use Rattle.diagnostic_texts.specs.Explained.{kind}
use Rattle.diagnostic_texts.proofs.Joined.{nine}
use Rattle.diagnostic_texts.proofs.text.answer_line.Goals as goal

pub returns : goal.returns
returns c =
    let whole = nine (10 ∷ codes "The answer to this source is \"") (kind c.args.code) (codes " ") (decimal c.args.code) (codes " at ") (decimal c.args.line) (codes ":")
    (decimal c.args.column) (codes "\"." ++ 10 ∷ []) in
    IfOk-weaker c.format.result _ _ (λ s h. (rw c.kind-kind.ensures at h) ∙ whole) c.format.ensures.ok
