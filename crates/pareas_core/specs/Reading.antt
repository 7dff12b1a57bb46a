-- How far reading and writing have come.
use Rattle.std.specs.Prelude.{◌≡◌, ℕ, ◌≤◌, List, ◌++◌, length, take, drop, Option, Some}
use Rattle.std.specs.Io.KnownBytes.{Appends, Consumes, IsAtEnd}

-- one read: the piece that the bytes grew by was taken from the input; none only at its end
pub record ReadsPiece (before after : Option (List ℕ)) (old new : List ℕ) (most count : ℕ) : Type 0 where
  pub piece : List ℕ
  pub grown : new ≡ old ++ piece
  pub taken : Consumes before after piece
  pub counted : length piece ≡ count
  pub bound : count ≤ most
  pub end : count ≡ 0 → IsAtEnd after

-- an input that tells its bytes has lost the first n of them, or all, and these were read
abbrev pub ReadsUpTo : ℕ → Option (List ℕ) → Option (List ℕ) → List ℕ → Type 0
ReadsUpTo n before after bytes = (all : List ℕ) → before ≡ Some all → (bytes ≡ take n all) × (after ≡ Some (drop n all))

-- a prefix of the bytes was written
pub record WritesPrefix (before after : Option (List ℕ)) (bytes : List ℕ) : Type 0 where
  pub front : List ℕ
  pub rest : List ℕ
  pub parts : bytes ≡ front ++ rest
  pub written : Appends before after front

-- of bytes that were put, all were written but the last ones, which are pending
pub record WritesAllBut (pending : List ℕ) (before after : Option (List ℕ)) (bytes : List ℕ) : Type 0 where
  pub front : List ℕ
  pub parts : bytes ≡ front ++ pending
  pub written : Appends before after front
