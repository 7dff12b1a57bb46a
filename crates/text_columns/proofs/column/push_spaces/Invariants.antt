use Rattle.std.proofs.Common.{◌≡◌, ◌++◌}
use Rattle.text_columns.specs.Columns.{spaces}
use Rattle.text_columns.proofs.column.push_spaces.Given as goal

abbrev pub invariant-loop : goal.invariant-loop
invariant-loop l = l.out.items ≡ l.initial.out.items ++ spaces l.counter
