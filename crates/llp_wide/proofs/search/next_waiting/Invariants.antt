-- What has been taken out so far is covered.
use Rattle.std.proofs.Common.{length}
use Rattle.llp_tables.specs.Lookbacks.{cells_at}
use Rattle.llp_wide.specs.Settling.{AreLeft}
use Rattle.llp_wide.proofs.search.next_waiting.Given as goal

abbrev pub invariant-loop-next : goal.invariant-loop-next
invariant-loop-next l = AreLeft (cells_at l.classes) l.initial.queue l.queue

abbrev pub decreases-loop-next : goal.decreases-loop-next
decreases-loop-next l = length l.queue
