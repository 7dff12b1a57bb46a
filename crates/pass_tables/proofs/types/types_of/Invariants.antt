use Rattle.std.proofs.Common.{◌≡◌, map, take}
use Rattle.std.specs.Prelude.{codes}
use Rattle.pass_tables.specs.Tables.{texts, type_or_dash}
use Rattle.pass_tables.proofs.types.types_of.Given as goal

abbrev pub invariant-loop-value_type : goal.invariant-loop-value_type
invariant-loop-value_type l = l.column ≡ texts (codes "type") (map type_or_dash (take l.value_type-index l.types))
