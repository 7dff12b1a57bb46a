use Rattle.std.proofs.Common.{◌∙◌, All, sym, subst}
use Rattle.pareas_core.specs.Batch.{IsFound}
use Rattle.pareas_core.proofs.Dealt.{both_ok, in_order_are}
use Rattle.pareas_core.proofs.batch.answer_all.Goals as goal

pub returns : goal.returns
returns g c =
    let sources = c.requires.0 in
    let is = c.requires.1 in
    let found = c.found.inside.found.items in
    let all : All (IsFound sources) found = subst (All (IsFound sources)) (sym c.found.view_is) (c.in_ok-found.ensures.answers sources is.records) in
    both_ok c.in_order.result _ _ _
    (λ answers many each. (sources, is, in_order_are sources found answers.items all (many ∙ c.requires.2) each))
    c.in_order.ensures.len c.in_order.ensures.each
