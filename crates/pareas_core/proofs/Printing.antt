-- What a run's answer leaves to be written.
use Rattle.std.proofs.Common.{◌≡◌, ℕ, ◌-◌, ◌<◌, List, [], ◌∷◌, ◌++◌, refl, sym, ap, ◌∙◌, arith, Result}
use Rattle.std.proofs.lemmas.List.{append_assoc}
use Rattle.rv_isa.specs.Word.{word_of}
use Rattle.rv_isa.specs.Effect.{State, Ending}
use Rattle.rv32_emul.specs.declared.machine.Outcome.{Outcome as Answer}
use Rattle.rv32_emul.specs.declared.machine.Outcome.TheVariants.{Print, Exit, Fault, More}
use Rattle.rv32_emul.specs.Machine.{Course, run, numbers, outcome_of}
use Rattle.rv32_emul.specs.Told.{told, left_of, Prints}
use Rattle.rv32_emul.specs.Laws.Runs.{course-prints}
use Rattle.pareas_core.specs.Output.{number_line, number_lines}
use Rattle.pareas_core.specs.Printing.{answer_lines, unwritten, last_outcome, steps_behind}

whole : (n : ℕ) (old : Result State Ending) → run (n - 0) old ≡ run n old
whole n old = ap (λ m. run m old) (let e : n - 0 ≡ n = omega arith in e)

pub left_unwritten : (o : Answer) (n : ℕ) (old new : Result State Ending) → Prints o n old → new ≡ run (n - left_of o) old → unwritten o new ≡ numbers n old
left_unwritten (Print value left) n old new p is = sym (ap (λ (c : Course). c.printed) (course-prints (word_of value) left n old new p.0 p.1 is))
left_unwritten (Exit v) n old new p is = sym p
left_unwritten (Fault kind at address) n old new p is = sym p
left_unwritten More n old new p is = sym p

pub last_is : (o : Answer) (n : ℕ) (old new : Result State Ending) → Prints o n old → new ≡ run (n - left_of o) old → told o ≡ outcome_of new → last_outcome o new ≡ outcome_of (run n old)
last_is (Print value left) n old new p is t = sym (ap (λ (c : Course). c.outcome) (course-prints (word_of value) left n old new p.0 p.1 is))
last_is (Exit v) n old new p is t = t ∙ ap outcome_of (is ∙ whole n old)
last_is (Fault kind at address) n old new p is t = t ∙ ap outcome_of (is ∙ whole n old)
last_is More n old new p is t = t ∙ ap outcome_of (is ∙ whole n old)

pub fewer_left : (o : Answer) (n : ℕ) (old : Result State Ending) → Prints o n old → steps_behind o < Rattle.std.proofs.Common.suc n
fewer_left (Print value left) n old p = omega (arith, p.0)
fewer_left (Exit v) n old p = omega arith
fewer_left (Fault kind at address) n old p = omega arith
fewer_left More n old p = omega arith

-- a number written
pub line_written : (o : Answer) (now : Result State Ending) (out new all : List ℕ) (value : _) (left : ℕ) → o ≡ Print value left → new ≡ out ++ answer_lines o →
    out ++ number_lines (unwritten o now) ≡ all → new ++ number_lines (numbers left now) ≡ all
line_written o now out new all value left on is h =
    ap (λ l. l ++ number_lines (numbers left now)) (is ∙ ap (λ o. out ++ answer_lines o) on)
    ∙ append_assoc out (number_line (word_of value)) (number_lines (numbers left now))
    ∙ ap (λ o. out ++ number_lines (unwritten o now)) (sym on)
    ∙ h

pub last_on : (o : Answer) (now : Result State Ending) (all : _) (value : _) (left : ℕ) → o ≡ Print value left → last_outcome o now ≡ all → outcome_of (run left now) ≡ all
last_on o now all value left on h = ap (λ o. last_outcome o now) (sym on) ∙ h
