use Rattle.std.proofs.Common.{◌≡◌, take}
use Rattle.pass_tables.specs.Tables.{numbers}
use Rattle.pass_tables.proofs.columns.numbers.Given as goal

abbrev pub invariant-loop-value : goal.invariant-loop-value
invariant-loop-value l = l.column ≡ numbers l.title (take l.value-index l.values)
