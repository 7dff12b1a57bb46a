use Rattle.std.proofs.Common.{sym, ◌∙◌}
use Rattle.rv_text.proofs.Steps.{word_read}
use Rattle.rv_text.proofs.operands.hexadecimal_word.Goals as goal

pub returns-then-digits-le8 : goal.returns-then-digits-le8
returns-then-digits-le8 c = word_read c.args.text.now c.split_digits.result.0.now c.split_digits.result.1.now c.hexadecimal.result c.split_digits.ensures.digits c.split_digits.ensures.rest
    (sym c.is_empty.ensures ∙ c.if-not-is_empty.true) c.if-digits-le8.true c.hexadecimal.ensures
