use Rattle.std.proofs.Common.{◌≡◌, map, take}
use Rattle.std.specs.Prelude.{codes}
use Rattle.pass_tables.specs.Tables.{rule_text, texts}
use Rattle.pass_tables.proofs.parse.rules.Given as goal

abbrev pub invariant-loop-number : goal.invariant-loop-number
invariant-loop-number l = l.column ≡ texts (codes "rule") (map (rule_text l.grammar) (take l.number-index l.productions))
