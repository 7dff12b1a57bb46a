-- Why a batch isn't read, the places of sources in it, and the bytes of answers.
use Rattle.std.specs.Prelude.{◌≡◌, ℕ, ◌+◌, ◌-◌, ◌≤◌, List, [], ◌∷◌, ◌++◌, length, take, drop, codes}
use Rattle.byteorder.specs.Endian.{little_bytes, little_number}
use Rattle.batch_records.specs.declared.fault.BatchError.{BatchError}
use Rattle.batch_records.specs.declared.fault.BatchError.TheVariants.{Fault, NoMemory}
use Rattle.batch_records.specs.declared.reading.Record.{Record}
use Rattle.batch_records.specs.declared.answer.AnswerKind.{AnswerKind}
use Rattle.batch_records.specs.declared.answer.AnswerKind.TheVariants.{Image, Diagnostic, Limit}
use Rattle.batch_records.specs.Batch.{IsBatchFault, fault_text}

-- the bytes of a place
abbrev pub source_at : List ℕ → Record → List ℕ
source_at bytes r = take (r.end - r.start) (drop r.start bytes)

-- the record that begins at a place is whole, and its source stands there
pub record IsRecordAt (bytes : List ℕ) (place : ℕ) (r : Record) : Type 0 where
  pub start_is : r.start ≡ place + 4
  pub end_is : r.end ≡ r.start + little_number 4 (drop place bytes)
  pub within : r.end ≤ length bytes

-- the error is the batch's fault, or that memory is out
abbrev pub IsError : List ℕ → BatchError → Type 0
IsError bytes (Fault fault) = IsBatchFault bytes fault
IsError bytes NoMemory = Unit {0}

abbrev pub error_text : BatchError → List ℕ
error_text (Fault fault) = fault_text fault
error_text NoMemory = codes "out of memory"

-- the byte that tells what an answer is
abbrev pub kind_byte : AnswerKind → ℕ
kind_byte Image = 0
kind_byte Diagnostic = 1
kind_byte Limit = 5

-- an answer, without where it lies in memory
pub record Answered : Type 0 where
  pub kind : AnswerKind
  pub bytes : List ℕ

-- an answer as bytes: what it is, its length in four bytes, the lowest first, and then its bytes
abbrev pub answer_bytes : Answered → List ℕ
answer_bytes a = kind_byte a.kind ∷ (little_bytes 4 (length a.bytes) ++ a.bytes)

-- all answers, in order
abbrev pub all_bytes : List Answered → List ℕ
all_bytes [] = []
all_bytes (a ∷ others) = answer_bytes a ++ all_bytes others
