use Rattle.std.proofs.Common.{◌≡◌, length}
use Rattle.table_text.specs.Ahead.{behind_unmarked}
use Rattle.table_text.proofs.ahead.Unread.take_marked.Given as goal

abbrev pub invariant-loop-a : goal.invariant-loop-a
invariant-loop-a l = behind_unmarked l.marks l.self ≡ behind_unmarked l.marks l.initial.self

abbrev pub decreases-loop-a : goal.decreases-loop-a
decreases-loop-a l = length l.self
