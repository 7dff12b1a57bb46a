use Rattle.std.proofs.Common.{◌≡◌, ◌++◌, take}
use Rattle.pass_tables.specs.Tables.{symbols_text}
use Rattle.pass_tables.proofs.parse.push_symbols.Given as goal

abbrev pub invariant-loop-symbol : goal.invariant-loop-symbol
invariant-loop-symbol l = l.out.items ≡ l.initial.out.items ++ symbols_text l.grammar (take l.symbol-index l.symbols)
