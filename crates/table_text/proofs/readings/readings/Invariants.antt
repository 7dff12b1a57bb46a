-- With what the rest of the tokens gives, what is written is the whole.
use Rattle.std.proofs.Common.{ℕ, List, ◌++◌, drop}
use Rattle.glue_summary.specs.Pieces.{at_begin}
use Rattle.table_text.specs.Members.{members_of}
use Rattle.table_text.specs.Readings.{AreWritten}
use Rattle.table_text.proofs.readings.readings.Given as goal

abbrev pub invariant-loop-b : goal.invariant-loop-b
invariant-loop-b l = (rest : List ℕ) → AreWritten l.grammar (members_of l.outlines.sets) l.last (drop l.b-index l.fn.tokens) rest → AreWritten l.grammar (members_of l.outlines.sets) at_begin l.fn.tokens (l.productions.items ++ rest)
