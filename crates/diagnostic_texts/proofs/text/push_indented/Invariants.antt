use Rattle.std.proofs.Common.{◌≡◌, ◌++◌, true, drop}
use Rattle.diagnostic_texts.specs.Explained.{indented}
use Rattle.diagnostic_texts.proofs.text.push_indented.Given as goal

abbrev pub invariant-loop-byte : goal.invariant-loop-byte
invariant-loop-byte l = l.text.items ++ indented l.begins (drop l.byte-index l.lines) ≡ l.initial.text.items ++ indented true l.lines
