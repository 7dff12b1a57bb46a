-- On the way through a run that prints: what one answer of the machine writes, and what is left behind it.
use Rattle.std.specs.Prelude.{ℕ, suc, List, [], ◌∷◌, Result}
use Rattle.rv_isa.specs.Word.{word_of}
use Rattle.rv_isa.specs.Effect.{State, Ending}
use Rattle.rv32_emul.specs.declared.machine.Outcome.{Outcome as Answer}
use Rattle.rv32_emul.specs.declared.machine.Outcome.TheVariants as answer
use Rattle.rv32_emul.specs.Machine.{Outcome, run, numbers, outcome_of}
use Rattle.rv32_emul.specs.Told.{told}
use Rattle.pareas_core.specs.Output.{number_line}

-- the line of the number that the machine prints, where it has stopped to print one
abbrev pub answer_lines : Answer → List ℕ
answer_lines (answer.Print value left) = number_line (word_of value)
answer_lines (answer.Exit v) = []
answer_lines (answer.Fault kind at address) = []
answer_lines answer.More = []

-- the numbers that are still to be written behind an answer, its own first
abbrev pub unwritten : Answer → Result State Ending → List ℕ
unwritten (answer.Print value left) now = word_of value ∷ numbers left now
unwritten (answer.Exit v) now = []
unwritten (answer.Fault kind at address) now = []
unwritten answer.More now = []

-- the outcome of all steps that were asked for
abbrev pub last_outcome : Answer → Result State Ending → Outcome
last_outcome (answer.Print value left) now = outcome_of (run left now)
last_outcome (answer.Exit v) now = told (answer.Exit v)
last_outcome (answer.Fault kind at address) now = told (answer.Fault kind at address)
last_outcome answer.More now = told answer.More

-- how many steps are left, and one for the answer that printed
abbrev pub steps_behind : Answer → ℕ
steps_behind (answer.Print value left) = suc left
steps_behind (answer.Exit v) = 0
steps_behind (answer.Fault kind at address) = 0
steps_behind answer.More = 0
