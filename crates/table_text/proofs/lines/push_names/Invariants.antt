use Rattle.std.proofs.Common.{◌≡◌, ◌++◌, take}
use Rattle.table_text.specs.Entries.{spaced_names}
use Rattle.table_text.proofs.lines.push_names.Given as goal

abbrev pub invariant-loop-symbol : goal.invariant-loop-symbol
invariant-loop-symbol l = l.text.items ≡ l.initial.text.items ++ spaced_names l.grammar (take l.symbol-index l.symbols)
