use Rattle.std.proofs.Common.{◌≡◌, map, take}
use Rattle.std.specs.Prelude.{codes}
use Rattle.pass_tables.specs.Tables.{kind_text, texts}
use Rattle.pass_tables.proofs.rows.kinds.Given as goal

abbrev pub invariant-loop-kind : goal.invariant-loop-kind
invariant-loop-kind l = l.column ≡ texts (codes "kind") (map kind_text (take l.kind-index l.kinds))
