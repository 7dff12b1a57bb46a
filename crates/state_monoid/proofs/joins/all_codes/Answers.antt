use Rattle.std.proofs.Common.{◌≡◌, ◌∙◌, ◌+◌, ◌++◌, ℕ, List, [], ◌∷◌, ap, sym, arith}
use Rattle.state_monoid.specs.Functions.{range_more}
use Rattle.state_monoid.proofs.joins.all_codes.Goals as goal

pub loop-code-preserved : goal.loop-code-preserved
loop-code-preserved c =
    let at : 0 + c.loop-code.code ≡ c.loop-code.code = omega arith in
    c.in_ok-push.ensures.items ∙ (ap (λ (l : List ℕ). l ++ c.loop-code.code ∷ []) c.loop-code.invariant ∙ sym (rw at at (range_more 0 c.loop-code.code)))
