use Rattle.std.proofs.Common.{◌≡◌, map, take}
use Rattle.std.specs.Prelude.{codes}
use Rattle.pass_tables.specs.Tables.{hexadecimal_text, texts}
use Rattle.pass_tables.proofs.code.codes_of.Given as goal

abbrev pub invariant-loop-word : goal.invariant-loop-word
invariant-loop-word l = l.column ≡ texts (codes "code") (map hexadecimal_text (take l.word-index l.words))
