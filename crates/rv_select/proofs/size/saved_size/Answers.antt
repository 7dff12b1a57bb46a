use Rattle.std.proofs.Common.{◌<◌, ap, ◌∙◌, arith}
use Rattle.code_rules.specs.RowPieces.{access_size}
use Rattle.rv_select.specs.Knowns.{frame_of}
use Rattle.rv_select.specs.Laws.Unrolls.{saved_sum}
use Rattle.rv_select.proofs.size.saved_size.Goals as goal

pub loop-i-preserved : goal.loop-i-preserved
loop-i-preserved c =
    let lt : c.loop-i.i < c.args.frame.registers = omega (arith, c.loop-i-test.true) in
    let next = saved_sum (frame_of c.args.frame) c.loop-i.i c.args.frame.registers lt in
    let so_far = c.loop-i.invariant.0 in
    let cap = c.loop-i.invariant.1 in
    let value = c.access_size-words.ensures.value ∙ ap access_size c.frame_word.ensures.value in
    let small = c.access_size-words.ensures.small in
    (omega arith, omega arith)
