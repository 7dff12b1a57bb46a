-- Ends in memory.
use Rattle.std.specs.Prelude.{ℕ, List}

-- an input: the bytes left, the most bytes of one read, the numbers of the reads that fail (from 1 on), and how many
-- reads there were and failed
pub record InMemory : Type 0 where
  pub left : List ℕ
  pub step : ℕ
  pub failing : List ℕ
  pub calls : ℕ
  pub faults : ℕ

-- an output: the bytes written, how many more have room, and the same of its writes
pub record OutMemory : Type 0 where
  pub written : List ℕ
  pub room : ℕ
  pub step : ℕ
  pub failing : List ℕ
  pub calls : ℕ
  pub faults : ℕ
