-- The parts that are left, and those behind them as one.
use Rattle.kin_pass.specs.Lists.{EachList}
use Rattle.kin_pass.proofs.Joining.{Has, Stands}
use Rattle.kin_pass.proofs.glued.glue_all.Given as goal

abbrev pub invariant-loop-part : goal.invariant-loop-part
invariant-loop-part l = record {
  place : EachList (Stands l.fn.parts.items l.left.items l.whole);
  items : EachList (Has l.fn.parts.items l.left.items l.whole);
}

abbrev pub decreases-loop-part : goal.decreases-loop-part
decreases-loop-part l = goal.left-loop-part l
