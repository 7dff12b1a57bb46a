use Rattle.std.proofs.Common.{◌∙◌, ap, [], ◌∷◌, codes}
use Rattle.std.proofs.lemmas.Result.{IfOk-weaker}
use Rattle.std.specs.Prelude.{decimal}
use Rattle.diagnostic_texts.specs.Explained.{heading, kind}
use Rattle.diagnostic_texts.proofs.Joined.{eight}
use Rattle.diagnostic_texts.proofs.text.heading.Goals as goal

pub returns : goal.returns
returns c =
    let inside = c.explanation.inside in
    let whole = eight (kind inside.code) (codes " ") (decimal inside.code) (codes ": ") inside.meaning.now (10 ∷ codes "place: ") inside.place.now (10 ∷ 10 ∷ []) in
    IfOk-weaker c.format.result _ _ (λ s h. (rw c.kind-kind.ensures at h) ∙ whole ∙ ap heading c.explanation.view_is) c.format.ensures.ok
