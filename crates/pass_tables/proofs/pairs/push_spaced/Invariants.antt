use Rattle.std.proofs.Common.{◌≡◌, ◌++◌, take}
use Rattle.pass_tables.specs.Tables.{spaced_text}
use Rattle.pass_tables.proofs.pairs.push_spaced.Given as goal

abbrev pub invariant-loop-number : goal.invariant-loop-number
invariant-loop-number l = l.out.items ≡ l.initial.out.items ++ spaced_text (take l.number-index l.numbers)
