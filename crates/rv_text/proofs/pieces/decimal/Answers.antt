use Rattle.rv_text.proofs.Steps.{held10}
use Rattle.rv_text.proofs.pieces.decimal.Goals as goal

pub loop-digit-preserved : goal.loop-digit-preserved
loop-digit-preserved c = held10 c.args.digits.now c.loop-digit.digit-index c.loop-digit.value c.saturating_mul.result c.digit_value.result c.saturating_add-value.result
    c.loop-digit-test.true c.loop-digit.invariant c.saturating_mul.ensures c.digit_value.ensures.value c.saturating_add-value.ensures
