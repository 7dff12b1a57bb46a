-- What the program writes for a command and the bytes that it read, and its status.
use Rattle.std.specs.Prelude.{ℕ, ◌+◌, ◌-◌, Bool, false, List, [], ◌∷◌, ◌++◌, length, take, replicate, codes, decimal, fold, count_by, ◌==◌, if◌then◌else◌, Option, Result, Ok, Err}
use Rattle.std.specs.Fmt.{signed_decimal, digits}
use Rattle.std.specs.List.{flat_map}
use Rattle.command_line.specs.declared.command.Command.{Command}
use Rattle.command_line.specs.declared.command.Pass.{Pass}
use Rattle.command_line.specs.declared.command.Command.TheVariants.{Build, Run, Show, Page, Batch, Emu, Dump, Asm, Table, Drill, Explain}
use Rattle.batch_records.specs.Batch.{IsBatch, IsBatchFault, fault_text}
use Rattle.batch_records.specs.Answering.{Answered, all_bytes}
use Rattle.batch_records.specs.declared.answer.AnswerKind.TheVariants as kinds
use Rattle.batch_records.specs.declared.fault.BatchFault.{BatchFault}
use Rattle.diagnostic_texts.specs.Explained.{explanation_text}
use Rattle.drill_source.specs.Drill.{drill_text}
use Rattle.rv_isa.specs.Word.{signed}
use Rattle.rv_isa.specs.declared.hart.FaultKind.{FaultKind}
use Rattle.rv_isa.specs.declared.hart.FaultKind.TheVariants.{Fetch, Load, Store, Misaligned, Unknown, Call}
use Rattle.elf_file.specs.declared.fault.ElfFault.{ElfFault}
use Rattle.elf_file.specs.Text.{name_of}
use Rattle.elf_text.specs.Listing.{dumped, file_of_text}
use Rattle.rv_text.specs.FaultLines.{line_of_fault as line_of_asm_fault}
use Rattle.rv_text.specs.declared.fault.AsmFault.{AsmFault}
use Rattle.rv32_emul.specs.Machine.{Outcome, Course, Exits, Faults, More, machine}
use Rattle.pass_views.specs.Shown.{IsPage, Shows}
use Rattle.pareas_core.specs.declared.status.Status.{Status}
use Rattle.pareas_core.specs.declared.status.Status.TheVariants.{Done, Refused, Limit, Running, Machine, Conflict, BadImage, BadGrammar, BadAsm, BadBatch}
use Rattle.table_text.specs.Answers.{IsTableAnswer}
use Rattle.table_text.specs.Lines.{line, counted}
use Rattle.table_text.specs.declared.answer.TableAnswer.{TableAnswer}
use Rattle.table_text.specs.declared.answer.TableAnswer.TheVariants as tables
use Rattle.source_meaning.specs.Ast.{Program}
use Rattle.source_meaning.specs.Lexemes.{tokens}
use Rattle.verdict.specs.Verdict.{Verdict, Diagnosed, Limited, Accepted, IsVerdict, image}

-- the status, and the bytes that are due on the output and on the notes
pub record Due : Type 0 where
  pub status : Status
  pub out : List ℕ
  pub notes : List ℕ

abbrev pub done : List ℕ → Due
done out = record { status = Done; out = out; notes = [] }

-- a refusal writes nothing but a line on the notes
abbrev pub noted : Status → List ℕ → Due
noted status text = record { status = status; out = []; notes = line text }

-- lines and columns count from 1; a column counts bytes
abbrev pub line_number : List ℕ → ℕ → ℕ
line_number text place = 1 + count_by (λ b. b == 10) (take place text)

abbrev pub column : List ℕ → ℕ → ℕ
column text place = fold (λ c b. if b == 10 then 1 else c + 1) 1 (take place text)

abbrev pub at_place : List ℕ → ℕ → ℕ → List ℕ
at_place text code place =
    decimal code ++ codes " at " ++ decimal (line_number text place) ++ codes ":" ++ decimal (column text place)

-- a source: what follows where it is a program, else its diagnostic
abbrev pub due_of_verdict : (Program → Due) → List ℕ → Verdict → Due
due_of_verdict f text (Diagnosed code place) = noted Refused (codes "error " ++ at_place text code place)
due_of_verdict f text (Limited code place bytes) = noted Limit (codes "limit " ++ at_place text code place)
due_of_verdict f text (Accepted p) = f p

-- what `build` says of a source: the image of its program, or why there is none
abbrev pub due_of_build : List ℕ → Verdict → Due
due_of_build text v = due_of_verdict (λ p. done (image p)) text v

-- the verdict refuses the source
abbrev pub Refuses : Verdict → Type 0
Refuses (Diagnosed code place) = Unit {0}
Refuses (Limited code place bytes) = Unit {0}
Refuses (Accepted p) = ⊥

-- ---- the machine's lines

-- a number that was printed, as a signed number
abbrev pub number_line : ℕ → List ℕ
number_line value = line (signed_decimal (signed value))

-- all that were printed, in order
abbrev pub number_lines : List ℕ → List ℕ
number_lines values = flat_map number_line values

abbrev pub kind_name : FaultKind → List ℕ
kind_name Fetch = codes "fetch"
kind_name Load = codes "load"
kind_name Store = codes "store"
kind_name Misaligned = codes "misaligned"
kind_name Unknown = codes "unknown"
kind_name Call = codes "call"

-- eight lower-case hexadecimal digits
abbrev pub hexadecimal : ℕ → List ℕ
hexadecimal word = let ds = digits 16 false word in replicate (8 - length ds) 48 ++ ds

-- the value as a signed number
abbrev pub exit_line : ℕ → List ℕ
exit_line value = line (codes "exit " ++ signed_decimal (signed value))

-- the fault's kind, and the pc at which it happened
abbrev pub fault_line : FaultKind → ℕ → List ℕ
fault_line kind at = line (codes "fault " ++ kind_name kind ++ codes " at 0x" ++ hexadecimal at)

-- how a run ended, or that it hasn't
abbrev pub machine_line : Outcome → List ℕ
machine_line (Exits value) = exit_line value
machine_line (Faults kind at address) = fault_line kind at
machine_line More = line (codes "running")

abbrev pub status_of : Outcome → Status
status_of (Exits value) = Done
status_of (Faults kind at address) = Machine
status_of More = Running

-- a run writes the numbers that were printed and the machine's line, behind the lines that stand before them; a file that isn't loaded is refused
abbrev pub due_of_machine : List ℕ → Result Course ElfFault → Due
due_of_machine before (Ok course) =
    record { status = status_of course.outcome; out = before ++ number_lines course.printed ++ machine_line course.outcome; notes = [] }
due_of_machine before (Err fault) = noted BadImage (codes "image " ++ name_of fault)

-- ---- listings

-- the listing of a file, or why it isn't loaded
abbrev pub due_of_dump : Result (List ℕ) ElfFault → Due
due_of_dump (Ok text) = done text
due_of_dump (Err fault) = noted BadImage (codes "image " ++ name_of fault)

-- the file of a listing, or the listing's first fault
abbrev pub due_of_asm : Result (List ℕ) AsmFault → Due
due_of_asm (Ok file) = done file
due_of_asm (Err fault) = noted BadAsm (line_of_asm_fault fault)

-- ---- a text that is made from a seed

-- the sizes of a text, in bytes and in tokens, and of its image
abbrev pub drill_lines : List ℕ → List ℕ → List ℕ
drill_lines text file =
    counted (codes "source") (length text) ++ counted (codes "tokens") (length (tokens text)) ++ counted (codes "image") (length file)

-- the steps that its machine is given
abbrev pub drill_steps : ℕ
drill_steps = 1000000

-- its image runs, and the sizes stand before the machine's lines
abbrev pub due_of_drill : List ℕ → List ℕ → Due
due_of_drill text file = due_of_machine (drill_lines text file) (machine file drill_steps)

-- ---- the tables of a grammar

-- the sizes of a grammar and of its tables, and the parse of a word, or why there are none
abbrev pub due_of_table : TableAnswer → Due
due_of_table (tables.Tabled text) = done text
due_of_table (tables.NoGrammar text) = noted BadGrammar text
due_of_table (tables.Conflict text) = noted Conflict text
due_of_table (tables.Syntax place) = noted Refused (codes "syntax " ++ decimal place)

-- ---- many sources at once

-- the answer to one source: the image of its program, or the line of its diagnostic or of the limit that it passes
abbrev pub answer_of : List ℕ → Verdict → Answered
answer_of text (Diagnosed code place) = record { kind = kinds.Diagnostic; bytes = line (codes "error " ++ at_place text code place) }
answer_of text (Limited code place bytes) = record { kind = kinds.Limit; bytes = line (codes "limit " ++ at_place text code place) }
answer_of text (Accepted p) = record { kind = kinds.Image; bytes = image p }

-- an answer to each source, in order, as if it were the only one
pub data AreAnswers : List (List ℕ) → List Answered → Type 0 where
  no_more : AreAnswers [] []
  next : {text : List ℕ} {v : Verdict} {sources : List (List ℕ)} {answers : List Answered} → IsVerdict false text v → AreAnswers sources answers →
      AreAnswers (text ∷ sources) (answer_of text v ∷ answers)

-- ---- what is due

-- What is due for a command and the bytes that it read. Workers, chunks and gate have no part in it.
pub data IsDue : Command → List ℕ → Due → Type 0 where
  built : {fold : Bool} {bytes : List ℕ} {v : Verdict} → IsVerdict fold bytes v → IsDue (Build fold) bytes (due_of_build bytes v)
  ran : {steps : ℕ} {fold : Bool} {bytes : List ℕ} {v : Verdict} → IsVerdict fold bytes v →
      IsDue (Run steps fold) bytes (due_of_verdict (λ p. due_of_machine [] (machine (image p) steps)) bytes v)
  -- the tables of a pass; a source that doesn't reach it is refused, and then what `build` says of it
  shown : {pass : Pass} {bytes text : List ℕ} → Shows bytes pass text → IsDue (Show pass) bytes (done text)
  unshown : {pass : Pass} {bytes : List ℕ} {v : Verdict} → ((text : List ℕ) → ¬ Shows bytes pass text) → IsVerdict false bytes v → Refuses v →
      IsDue (Show pass) bytes (due_of_build bytes v)
  -- the page of a source; one that has none is refused, and then what `build` says of it
  paged : {bytes text : List ℕ} → IsPage bytes text → IsDue Page bytes (done text)
  unpaged : {bytes : List ℕ} {v : Verdict} → ((text : List ℕ) → ¬ IsPage bytes text) → IsVerdict false bytes v → Refuses v → IsDue Page bytes (due_of_build bytes v)
  -- the answers to all sources of a batch, or the fault of bytes that are no batch
  batched : {bytes : List ℕ} {sources : List (List ℕ)} {answers : List Answered} → IsBatch bytes sources → AreAnswers sources answers →
      IsDue Batch bytes (done (all_bytes answers))
  bad_batch : {bytes : List ℕ} {fault : BatchFault} → IsBatchFault bytes fault → IsDue Batch bytes (noted BadBatch (fault_text fault))
  emulated : {steps : ℕ} {bytes : List ℕ} → IsDue (Emu steps) bytes (due_of_machine [] (machine bytes steps))
  listed : {bytes : List ℕ} → IsDue Dump bytes (due_of_dump (dumped bytes))
  assembled : {bytes : List ℕ} → IsDue Asm bytes (due_of_asm (file_of_text bytes))
  tabled : {word : Option (List ℕ)} {entries : Bool} {bytes : List ℕ} {answer : TableAnswer} → IsTableAnswer bytes entries word answer →
      IsDue (Table word entries) bytes (due_of_table answer)
  -- the text of the seed is the source, and a diagnostic tells its place there
  drilled : {seed functions : ℕ} {bytes : List ℕ} {v : Verdict} → IsVerdict false (drill_text seed functions) v →
      IsDue (Drill seed functions) bytes
      (due_of_verdict (λ p. due_of_drill (drill_text seed functions) (image p)) (drill_text seed functions) v)
  explained : {code : ℕ} {bytes : List ℕ} → IsDue (Explain code) bytes (done (explanation_text code))
