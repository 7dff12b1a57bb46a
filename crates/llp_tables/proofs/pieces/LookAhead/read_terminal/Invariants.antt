use Rattle.std.proofs.Common.{◌-◌, ◌^◌, length}
use Rattle.llp_tables.proofs.Reading.{IsReading}
use Rattle.llp_tables.proofs.pieces.LookAhead.read_terminal.Given as goal

abbrev pub invariant-loop-a : goal.invariant-loop-a
invariant-loop-a l = IsReading l.self.grammar.now l.self.b l.initial.unread l.unread l.initial.productions.items l.productions.items

abbrev pub decreases-loop-a : goal.decreases-loop-a
decreases-loop-a l = 2 ^ 63 - length l.productions.items
