-- The input of a batch: many sources as records, and the first fault of bytes that are none.
use Rattle.std.specs.Prelude.{◌≡◌, ℕ, ◌-◌, ◌^◌, ◌<◌, ◌≤◌, List, [], ◌∷◌, ◌++◌, length, codes, decimal}
use Rattle.byteorder.specs.Endian.{little_bytes, little_number}
use Rattle.batch_records.specs.declared.fault.BatchFault.{BatchFault}
use Rattle.batch_records.specs.declared.fault.BatchFault.TheVariants.{TooLarge, Record, Count}

-- the most bytes of a batch
abbrev pub most_batch : ℕ
most_batch = 67108864

-- the most records
abbrev pub most_records : ℕ
most_records = 65536

-- sources as records: of each its length in four bytes, the lowest first, and then its bytes
abbrev pub record_bytes : List (List ℕ) → List ℕ
record_bytes [] = []
record_bytes (source ∷ sources) = little_bytes 4 (length source) ++ (source ++ record_bytes sources)

-- four bytes are enough for each length
abbrev pub AreShort : List (List ℕ) → Type 0
AreShort [] = Unit {0}
AreShort (source ∷ sources) = (length source < 2 ^ 32) × AreShort sources

-- the bytes are the records of these sources, in order
pub record Records (bytes : List ℕ) (sources : List (List ℕ)) : Type 0 where
  pub spelled : bytes ≡ record_bytes sources
  pub short : AreShort sources

-- what is left behind whole records isn't a whole one: it has fewer than four bytes, or fewer behind these than they tell
pub data IsBroken : List ℕ → Type 0 where
  no_length : {bytes : List ℕ} → 0 < length bytes → length bytes < 4 → IsBroken bytes
  cut_off : {bytes : List ℕ} → 4 ≤ length bytes → length bytes - 4 < little_number 4 bytes → IsBroken bytes

-- a batch that is taken, and its sources
pub record IsBatch (bytes : List ℕ) (sources : List (List ℕ)) : Type 0 where
  pub records : Records bytes sources
  pub small : length bytes ≤ most_batch
  pub few : length sources ≤ most_records

-- the fault of a batch that isn't taken: it has too many bytes, else the record with this number, from 0 on, isn't whole, else there are too many
pub data IsBatchFault (bytes : List ℕ) : BatchFault → Type 0 where
  too_large : most_batch < length bytes → IsBatchFault bytes TooLarge
  not_whole : {front rest : List ℕ} {sources : List (List ℕ)} → length bytes ≤ most_batch → bytes ≡ front ++ rest → Records front sources → IsBroken rest
      → IsBatchFault bytes (Record (length sources))
  too_many : {sources : List (List ℕ)} → length bytes ≤ most_batch → Records bytes sources → most_records < length sources → IsBatchFault bytes Count

-- its line, without a line feed
abbrev pub fault_text : BatchFault → List ℕ
fault_text TooLarge = codes "batch too large"
fault_text (Record number) = codes "batch record " ++ decimal number
fault_text Count = codes "batch count"
