use Rattle.std.proofs.Common.{◌≡◌, map, take}
use Rattle.std.specs.Prelude.{codes}
use Rattle.rv_text.specs.Written.{line_of}
use Rattle.pass_tables.specs.Tables.{texts}
use Rattle.pass_tables.proofs.code.instructions.Given as goal

abbrev pub invariant-loop-word : goal.invariant-loop-word
invariant-loop-word l = l.column ≡ texts (codes "instruction") (map line_of (take l.word-index l.words))
