use Rattle.std.proofs.Common.{◌≡◌, length}
use Rattle.grammar_file.specs.Laws.Marks.{unmarked}
use Rattle.llp_tables.specs.Lengths.{counted, AreCounts}
use Rattle.llp_tables.proofs.lengths.empty_lengths.Given as goal

abbrev pub invariant-loop-a : goal.invariant-loop-a
invariant-loop-a l = record { len : length l.lengths.items ≡ length l.grammar.nonterminals; counts : AreCounts l.grammar l.lengths.items }

abbrev pub decreases-loop-a : goal.decreases-loop-a
decreases-loop-a l = unmarked (counted l.lengths.items)
