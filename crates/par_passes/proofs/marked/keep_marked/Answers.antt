use Rattle.std.proofs.Common.{false}
use Rattle.par_passes.specs.Laws.Marking.{push_item}
use Rattle.par_passes.proofs.marked.keep_marked.Goals as goal

pub loop-k-preserved : goal.loop-k-preserved
loop-k-preserved g c = push_item c.args.items.now c.args.marks.now c.loop-k.k c.index-items-k.result false c.loop-k.out.items _ c.requires.marks c.loop-k-test.true c.index-items-k.is c.loop-k.invariant c.in_ok-push_if.ensures
