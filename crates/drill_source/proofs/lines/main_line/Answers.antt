use Rattle.std.proofs.Common.{◌∙◌, [], ◌∷◌, codes}
use Rattle.std.proofs.lemmas.Result.{IfOk-weaker}
use Rattle.std.specs.Prelude.{decimal}
use Rattle.drill_source.proofs.Joined.{four}
use Rattle.drill_source.proofs.lines.main_line.Goals as goal

pub returns : goal.returns
returns c =
    let whole = four (codes "fn main(): int { return f") (decimal c.args.last) (codes "[1]; }") (10 ∷ []) in
    IfOk-weaker c.format.result _ _ (λ s h. h ∙ whole) c.format.ensures.ok
