use Rattle.llp_tables.proofs.EmptyLengths.{IsClosedBelow}
use Rattle.llp_tables.proofs.lengths.next_length.Given as goal

abbrev pub invariant-loop-production : goal.invariant-loop-production
invariant-loop-production l = IsClosedBelow l.productions l.lengths l.production-index
