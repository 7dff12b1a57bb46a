use Rattle.std.specs.Prelude.{slice_index_or, []}
use Rattle.state_monoid.specs.Explored.{AreExplored, IsRow, StaysIn}
use Rattle.state_monoid.proofs.explore.row.Given as goal

abbrev pub invariant-loop-letter : goal.invariant-loop-letter
invariant-loop-letter l = record {
  explored : AreExplored l.letters.dfa l.letters.functions.keys l.functions.keys l.origins.items;
  stays : StaysIn l.fn.functions.keys l.functions.keys;
  row : IsRow l.letters.functions.keys l.functions.keys (slice_index_or l.fn.functions.keys l.before []) l.row.items l.letter;
}
