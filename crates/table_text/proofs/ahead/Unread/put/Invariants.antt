use Rattle.std.proofs.Common.{◌≡◌, ◌++◌, drop, reverse}
use Rattle.table_text.proofs.ahead.Unread.put.Given as goal

abbrev pub invariant-loop-i : goal.invariant-loop-i
invariant-loop-i l = reverse l.self-inside.symbols.items ≡ drop l.i l.symbols ++ reverse l.initial.self-inside.symbols.items
