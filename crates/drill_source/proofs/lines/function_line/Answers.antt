use Rattle.std.proofs.Common.{◌∙◌, [], ◌∷◌, codes}
use Rattle.std.proofs.lemmas.Result.{IfOk-weaker}
use Rattle.std.specs.Prelude.{decimal}
use Rattle.drill_source.specs.Drill.{first_value}
use Rattle.drill_source.proofs.Joined.{ten}
use Rattle.drill_source.proofs.lines.function_line.Goals as goal

pub returns : goal.returns
returns c =
    let whole = ten (codes "fn f") (decimal c.args.number) (codes "(var a: int): int { var b: int = ") (first_value c.args.number c.args.first c.args.second)
    (codes "; if b > a { b = b - ") (decimal c.args.third) (codes "; } else { b = b ^ ") (decimal c.args.third) (codes "; } return b; }") (10 ∷ []) in
    IfOk-weaker c.format.result _ _ (λ s h. (rw c.in_ok-value.ensures at h) ∙ whole) c.format.ensures.ok
