-- What the steps of the program answer, on the way to the headline: what a command reads, what is due for it, and what is written.
use Rattle.std.specs.Prelude.{◌≡◌, ℕ, ◌⊎◌, Bool, List, ◌++◌, length, drop, Option, Some, codes}
use Rattle.pareas_core.specs.declared.status.Status.{Status}
use Rattle.pareas_core.specs.declared.status.Status.TheVariants as statuses
use Rattle.pareas_core.specs.Headline.{CompilesTo, RunsAs, Runs, HasRun, read_by, End, HasFailed, GotPrefix, IsWritten}
use Rattle.pareas_core.specs.Output.{Due, IsDue, at_place, noted}
use Rattle.pareas_core.specs.declared.response.Output.{Output}
use Rattle.pareas_core.specs.declared.response.Output.TheVariants.{Bytes, Answers}
use Rattle.batch_records.specs.Answering.{all_bytes}
use Rattle.command_line.specs.declared.command.Command.{Command}
use Rattle.command_line.specs.declared.command.Command.TheVariants.{Build}
use Rattle.front_end.specs.declared.refusal.Refusal.{Refusal}
use Rattle.front_end.specs.declared.refusal.Refusal.TheVariants.{Diagnostic, Limit, NoMemory}

-- what is due for the bytes that were read, and that nothing else is; what is built behaves
pub record IsResponse (c : Command) (bytes : List ℕ) (d : Due) : Type 0 where
  pub due : IsDue c bytes d
  pub only : (e : Due) → IsDue c bytes e → e ≡ d
  pub built : (fold : Bool) → c ≡ Build fold → d.status ≡ statuses.Done → CompilesTo fold bytes d.out
  pub ran : (fold : Bool) (source : List ℕ) (steps : ℕ) → Runs c bytes fold source steps → HasRun d.status → RunsAs fold source steps d.status

-- an input that tells its bytes has lost those that the command reads
abbrev pub HasRead : Command → Option (List ℕ) → Option (List ℕ) → List ℕ → Type 0
HasRead c before after bytes = (all : List ℕ) → before ≡ Some all → (bytes ≡ read_by c all) × (after ≡ Some (drop (length (read_by c all)) all))

-- the line of a source that has no image
abbrev pub IsToldOf : List ℕ → Refusal → Due → Type 0
IsToldOf text (Diagnostic code at) d = d ≡ noted statuses.Refused (codes "error " ++ at_place text code at)
IsToldOf text (Limit code at bytes) d = d ≡ noted statuses.Limit (codes "limit " ++ at_place text code at)
IsToldOf text NoMemory d = ⊥

-- the bytes of an output
abbrev pub output_bytes : Output → List ℕ
output_bytes (Bytes bytes) = bytes.items
output_bytes (Answers answers) = all_bytes answers.items

-- a response was written whole, or a write failed behind a prefix of it
pub data IsDelivered (d : Due) (out notes : End) : Status → Type 0 where
  whole : IsWritten d.status out notes d → out.faults_after ≡ out.faults_before → notes.faults_after ≡ notes.faults_before → IsDelivered d out notes d.status
  broken_off : HasFailed out ⊎ HasFailed notes → GotPrefix out d.out → GotPrefix notes d.notes → IsDelivered d out notes statuses.WriteFault
