use Rattle.std.proofs.Common.{◌≡◌, take}
use Rattle.std.specs.Prelude.{codes}
use Rattle.pass_tables.specs.Tables.{function_names, texts}
use Rattle.pass_tables.proofs.frames.function_names.Given as goal

abbrev pub invariant-loop-k : goal.invariant-loop-k
invariant-loop-k l = l.column ≡ texts (codes "name") (function_names l.text l.tokens (take l.k l.rows))
