use Rattle.std.proofs.Common.{◌-◌}
use Rattle.llp_tables.specs.Lengths.{AreEmptyLengths, IsPieceOf}
use Rattle.llp_tables.proofs.PieceLengths.{IsCountedTo}
use Rattle.llp_tables.proofs.lengths.PieceRoom.productions.Given as goal

abbrev pub invariant-loop-sum : goal.invariant-loop-sum
invariant-loop-sum l = AreEmptyLengths l.ahead.grammar.now l.self → IsPieceOf l.ahead.grammar.now l.ahead.first.now l.ahead.predictions.now l.ahead.b l.closes → IsCountedTo l.ahead.grammar.now l.ahead.b l.closes l.form l.sum

abbrev pub decreases-loop-sum : goal.decreases-loop-sum
decreases-loop-sum l = 18446744073709551615 - l.sum
