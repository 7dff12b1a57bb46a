-- The columns of the stretches so far, and the stretches that are left.
use Rattle.std.proofs.Common.{◌≡◌, ◌++◌, length}
use Rattle.tree_passes.proofs.Appended.{AreColumnsBefore}
use Rattle.tree_passes.proofs.walked.join_columns.Given as goal

abbrev pub invariant-loop-part : goal.invariant-loop-part
invariant-loop-part l = (l.yielded ++ l.part-iterator.rest.items ≡ l.fn.parts.items)
    × AreColumnsBefore l.source.text.now l.source.numbers.now l.ends (length l.yielded) l.all.kinds.items l.all.lows.items l.all.tokens.items
