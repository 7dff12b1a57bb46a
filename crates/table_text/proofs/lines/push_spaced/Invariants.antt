use Rattle.std.proofs.Common.{◌≡◌, ◌++◌, take}
use Rattle.table_text.specs.Lines.{spaced}
use Rattle.table_text.proofs.lines.push_spaced.Given as goal

abbrev pub invariant-loop-number : goal.invariant-loop-number
invariant-loop-number l = l.text.items ≡ l.initial.text.items ++ spaced (take l.number-index l.numbers)
