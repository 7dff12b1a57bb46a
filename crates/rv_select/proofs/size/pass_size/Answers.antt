use Rattle.std.proofs.Common.{◌<◌, arith}
use Rattle.rv_select.specs.Knowns.{frame_of}
use Rattle.rv_select.specs.Laws.Unrolls.{pass_sum}
use Rattle.rv_select.proofs.size.pass_size.Goals as goal

pub loop-i-preserved : goal.loop-i-preserved
loop-i-preserved c =
    let lt : c.loop-i.i < c.args.count = omega (arith, c.loop-i-test.true) in
    let next = pass_sum (frame_of c.args.frame) c.args.depth c.loop-i.i c.args.count lt in
    let so_far = c.loop-i.invariant.0 in
    let cap = c.loop-i.invariant.1 in
    let value = c.move_size-words.ensures.value in
    let small = c.move_size-words.ensures.small in
    (omega arith, omega arith)
