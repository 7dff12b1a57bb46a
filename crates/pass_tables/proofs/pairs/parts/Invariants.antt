use Rattle.std.proofs.Common.{◌≡◌, ◌∷◌, get_or, take}
use Rattle.llp_tables.specs.EntryTable.{entry_of}
use Rattle.pass_tables.specs.Tables.{texts}
use Rattle.pass_tables.specs.PairTexts.{part_texts}
use Rattle.pass_tables.proofs.pairs.parts.Given as goal

abbrev pub invariant-loop-terminal : goal.invariant-loop-terminal
invariant-loop-terminal l = record {
  column_is : l.column ≡ texts l.title (part_texts l.part l.reading.grammar.now (entry_of l.reading.tables.now) (take l.terminal-index l.word));
  before_is : l.before ≡ get_or (0 ∷ l.word) l.terminal-index 0;
}
