-- What the nonterminal leaves is left of the stack, too. Each turn takes a nonterminal, and memory holds those that were taken.
use Rattle.std.proofs.Common.{◌-◌, ◌^◌, length}
use Rattle.table_text.specs.Ahead.{LeadsTo}
use Rattle.table_text.proofs.ahead.opens_of.Given as goal

abbrev pub invariant-loop-a : goal.invariant-loop-a
invariant-loop-a l = LeadsTo l.grammar l.first l.predictions l.nonterminal l.unread

abbrev pub decreases-loop-a : goal.decreases-loop-a
decreases-loop-a l = 2 ^ 63 - length l.taken.items
