use Rattle.std.proofs.Common.{◌≡◌, ◌∙◌, ap, suc, codes, sym, rules}
use Rattle.std.proofs.lemmas.Result.{IfOk-weaker}
use Rattle.std.specs.Prelude.{decimal}
use Rattle.drill_source.specs.Drill.{first_value}
use Rattle.drill_source.proofs.Joined.{four, six}
use Rattle.drill_source.proofs.lines.first_value.Goals as goal

pub returns-in-Some : goal.returns-in-Some
returns-in-Some c =
    let number : c.args.number ≡ suc c.in-Some.before = search rules in
    let whole = six (codes "f") (decimal c.in-Some.before) (codes "[a + ") (decimal c.args.first) (codes "] * ") (decimal c.args.second) in
    IfOk-weaker c.format.result _ _ (λ s h. h ∙ whole ∙ ap (λ k. first_value k c.args.first c.args.second) (sym number)) c.format.ensures.ok

pub returns-in-None : goal.returns-in-None
returns-in-None c =
    let number : c.args.number ≡ 0 = search rules in
    let whole = four (codes "a * ") (decimal c.args.first) (codes " + ") (decimal c.args.second) in
    IfOk-weaker c.format-in-None.result _ _ (λ s h. h ∙ whole ∙ ap (λ k. first_value k c.args.first c.args.second) (sym number)) c.format-in-None.ensures.ok
