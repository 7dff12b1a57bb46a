use Rattle.std.proofs.Common.{◌≡◌, ◌+◌, ◌≤◌, ◌++◌, ℕ, List, Result, Ok, Err, length}
use Rattle.std.specs.Str.Lines.{lines}
use Rattle.rv_text.specs.declared.fault.AsmFault.{AsmFault}
use Rattle.rv_text.specs.Assembled.{words_from}
use Rattle.rv_text.proofs.assembler.words.Given as goal

-- words that were read, and what comes of the other lines
abbrev pub after : List ℕ → Result (List ℕ) AsmFault → Result (List ℕ) AsmFault
after words (Ok more) = Ok (words ++ more)
after words (Err fault) = Err fault

abbrev pub invariant-loop-line : goal.invariant-loop-line
invariant-loop-line l = (l.number + length l.rest ≤ 134217729) × (words_from 1 (lines l.text) ≡ after l.words.items (words_from l.number (lines l.rest)))

abbrev pub decreases-loop-line : goal.decreases-loop-line
decreases-loop-line l = length l.rest
