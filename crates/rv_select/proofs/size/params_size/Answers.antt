use Rattle.std.proofs.Common.{◌<◌, ap, ◌∙◌, arith}
use Rattle.code_rules.specs.RowPieces.{access_size}
use Rattle.rv_select.specs.Knowns.{frame_of}
use Rattle.rv_select.specs.Laws.Unrolls.{params_sum}
use Rattle.rv_select.proofs.size.params_size.Goals as goal

pub loop-j-preserved : goal.loop-j-preserved
loop-j-preserved c =
    let lt : c.loop-j.j < c.args.params = omega (arith, c.loop-j-test.true) in
    let next = params_sum (frame_of c.args.frame) c.loop-j.j c.args.params lt in
    let so_far = c.loop-j.invariant.0 in
    let cap = c.loop-j.invariant.1 in
    let value = c.access_size-words.ensures.value ∙ ap access_size c.variable_offset.ensures.value in
    let small = c.access_size-words.ensures.small in
    (omega arith, omega arith)
