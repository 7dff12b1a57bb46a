-- What the compiler and the program answer.
use Rattle.std.specs.Prelude.{◌≡◌, ◌≢◌, ℕ, ◌+◌, ◌⊎◌, Bool, true, false, List, [], ◌++◌, length, take, drop, Option, Some, None, slice_get, if◌then◌else◌}
use Rattle.limits.specs.Limits.{most_source}
use Rattle.verdict.specs.Verdict.{Accepted, IsVerdict, image}
use Rattle.rv_code.specs.Code.{layout_of}
use Rattle.simulation.specs.Behaves.{Behaves, Overruns}
use Rattle.source_meaning.specs.Ast.{Program}
use Rattle.pareas_core.specs.declared.status.Status.{Status}
use Rattle.pareas_core.specs.declared.status.Status.TheVariants as statuses
use Rattle.pareas_core.specs.Causes.{Rose, Stayed}
use Rattle.command_line.specs.declared.command.Command.{Command}
use Rattle.command_line.specs.declared.command.Command.TheVariants.{Build, Run, Show, Page, Batch, Emu, Dump, Asm, Table, Drill, Explain}
use Rattle.elf_file.specs.Load.{most as most_image}
use Rattle.batch_records.specs.Batch.{IsBatch, most_batch}
use Rattle.batch_records.specs.Answering.{Answered}
use Rattle.batch_records.specs.declared.answer.AnswerKind.TheVariants as kinds
use Rattle.drill_source.specs.Drill.{drill_text}
use Rattle.pareas_core.specs.Output.{Due, IsDue, AreAnswers, drill_steps}

-- ---- the compiler

-- The source is a program, with its constants folded where that is asked for, the file is its image, and on RV32IM the image does what the
-- program does.
pub record CompilesTo (fold : Bool) (source file : List ℕ) : Type 0 where
  pub program : Program
  pub accepted : IsVerdict fold source (Accepted program)
  pub is_image : file ≡ image program
  pub behaves : Behaves (layout_of program) program file

-- ---- the program

-- a program's run by its image: the image behaves as the program on RV32IM, and a fault within the steps is the store
-- with which the program overruns its stack
pub record RunsAs (fold : Bool) (source : List ℕ) (steps : ℕ) (status : Status) : Type 0 where
  pub program : Program
  pub accepted : IsVerdict fold source (Accepted program)
  pub behaves : Behaves (layout_of program) program (image program)
  pub overran : status ≡ statuses.Machine → (printed : List ℕ) × Overruns (layout_of program) program (image program) steps printed

-- the most bytes of a grammar file
abbrev pub most_grammar : ℕ
most_grammar = 65536

-- the most bytes of a listing
abbrev pub most_listing : ℕ
most_listing = 134217728

-- The program that a command runs, by whether its constants are folded and by its source, and for how many steps: the source is what was read, or a
-- drill's text.
pub data Runs : Command → List ℕ → Bool → List ℕ → ℕ → Type 0 where
  what_was_read : {steps : ℕ} {fold : Bool} {bytes : List ℕ} → Runs (Run steps fold) bytes fold bytes steps
  what_was_made : {seed functions : ℕ} {bytes : List ℕ} → Runs (Drill seed functions) bytes false (drill_text seed functions) drill_steps

-- whether a command reads the input
abbrev pub reads : Command → Bool
reads (Drill seed functions) = false
reads (Explain code) = false
reads _ = true

-- the most bytes that a command takes
abbrev pub most_bytes : Command → ℕ
most_bytes (Build fold) = most_source
most_bytes (Run steps fold) = most_source
most_bytes (Show pass) = most_source
most_bytes Page = most_source
most_bytes Batch = most_batch
most_bytes (Emu steps) = most_image
most_bytes Dump = most_image
most_bytes Asm = most_listing
most_bytes (Table word entries) = most_grammar
most_bytes (Drill seed functions) = 0
most_bytes (Explain code) = 0

-- the bytes that a command reads: those of the input, up to one past its limit
abbrev pub read_by : Command → List ℕ → List ℕ
read_by c bytes = if reads c then take (most_bytes c + 1) bytes else []

-- the machine ran
abbrev pub HasRun : Status → Type 0
HasRun status = (status ≡ statuses.Done) ⊎ (status ≡ statuses.Running) ⊎ (status ≡ statuses.Machine)

-- An end of the program before and after the call: its bytes, where it tells them, and its count of faults.
-- An input tells the bytes that are left, an output those that were written.
pub record End : Type 0 where
  pub before : Option (List ℕ)
  pub after : Option (List ℕ)
  pub faults_before : ℕ
  pub faults_after : ℕ

abbrev pub HasFailed : End → Type 0
HasFailed e = Rose e.faults_before e.faults_after

abbrev pub HasWorked : End → Type 0
HasWorked e = Stayed e.faults_before e.faults_after

-- an output that tells its bytes got these
abbrev pub Got : End → List ℕ → Type 0
Got e bytes = (old : List ℕ) → e.before ≡ Some old → e.after ≡ Some (old ++ bytes)

-- an output that tells its bytes got a prefix of these
abbrev pub GotPrefix : End → List ℕ → Type 0
GotPrefix e bytes = (old : List ℕ) → e.before ≡ Some old → (front rest : List ℕ) × (bytes ≡ front ++ rest) × (e.after ≡ Some (old ++ front))

-- the status and all that was written are what is due
pub record IsWritten (status : Status) (out notes : End) (d : Due) : Type 0 where
  pub is_status : status ≡ d.status
  pub is_out : Got out d.out
  pub are_notes : Got notes d.notes

-- What a command answers where no end failed and memory sufficed.
pub record IsAnswer (c : Command) (bytes : List ℕ) (status : Status) (input out notes : End) : Type 0 where
  -- it has read the input to its end, or to one byte past the limit
  pub read : input.after ≡ Some (drop (length (read_by c bytes)) bytes)
  -- it has written what is due, and nothing else is due
  pub due : (d : Due) × IsDue c (read_by c bytes) d × IsWritten status out notes d
  pub only : (d : Due) → IsDue c (read_by c bytes) d → IsWritten status out notes d
  -- what was built is the image of the program that the source is, and behaves as that program on RV32IM
  pub built : (fold : Bool) → c ≡ Build fold → status ≡ statuses.Done → (file : List ℕ) × CompilesTo fold (read_by c bytes) file × Got out file
  -- each image of a batch is that of the program that its source is, and behaves as that program on RV32IM
  pub built_each : c ≡ Batch → (sources : List (List ℕ)) (answers : List Answered) → IsBatch (read_by c bytes) sources → AreAnswers sources answers →
      (k : ℕ) (text : List ℕ) (a : Answered) → slice_get sources k ≡ Some text → slice_get answers k ≡ Some a → a.kind ≡ kinds.Image → CompilesTo false text a.bytes
  -- what was run is the image of the program that the source is; the source of a drill is its text
  pub ran : (fold : Bool) (source : List ℕ) (steps : ℕ) → Runs c (read_by c bytes) fold source steps → HasRun status → RunsAs fold source steps status

-- The answer to words that name a command, and the status of words that name none. Each status has its cause.
pub record MeetsWords (words : Option Command) (input out notes : End) (status : Status) : Type 0 where
  -- the whole of it: the input tells its bytes, and no end failed
  pub answer : (c : Command) (bytes : List ℕ) → words ≡ Some c → input.before ≡ Some bytes →
      HasWorked input → HasWorked out → HasWorked notes → status ≢ statuses.NoMemory → IsAnswer c bytes status input out notes
  -- words that are refused: nothing is read, and nothing goes to the output
  pub usage : words ≡ None → (status ≡ statuses.Usage) ⊎ (status ≡ statuses.NoMemory) ⊎ (status ≡ statuses.WriteFault)
  pub usage_only : status ≡ statuses.Usage → words ≡ None
  pub unread : words ≡ None → (input.after ≡ input.before) × (input.faults_after ≡ input.faults_before)
  -- nor is anything read for a drill or an explanation
  pub undisturbed : (c : Command) → words ≡ Some c → reads c ≡ false → (input.after ≡ input.before) × (input.faults_after ≡ input.faults_before)
  pub no_output : words ≡ None → Got out []
  -- a read that failed
  pub read_fault : status ≡ statuses.ReadFault → HasFailed input × ((c : Command) × (words ≡ Some c) × (reads c ≡ true))
  pub read_fault_only : input.faults_after ≢ input.faults_before → status ≡ statuses.ReadFault
  -- a write that failed
  pub write_fault : status ≡ statuses.WriteFault → HasFailed out ⊎ HasFailed notes
  pub write_fault_only : ¬ ((out.faults_after ≡ out.faults_before) × (notes.faults_after ≡ notes.faults_before)) → status ≡ statuses.WriteFault
  -- after it each output has a prefix of what is due
  pub prefix : (c : Command) (bytes : List ℕ) (d : Due) → words ≡ Some c → input.before ≡ Some bytes → status ≡ statuses.WriteFault →
      IsDue c (read_by c bytes) d → GotPrefix out d.out × GotPrefix notes d.notes
  -- after a failed read, or out of memory, nothing was written
  pub nothing : (status ≡ statuses.ReadFault) ⊎ (status ≡ statuses.NoMemory) → Got out [] × Got notes []
