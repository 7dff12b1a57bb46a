-- What a search over the functions of an automaton has found.
use Rattle.std.specs.Prelude.{◌≡◌, ◌⊎◌, ℕ, ◌+◌, ◌*◌, ◌<◌, ◌≤◌, List, [], ◌∷◌, ◌++◌, length, map, Some, slice_get, slice_index, slice_index_or, All}
use Rattle.state_monoid.specs.Automaton.{Automaton}
use Rattle.state_monoid.specs.Image.{image, compose, IsReached}
use Rattle.state_monoid.specs.declared.explore.Origin.{Origin}

-- what had a number keeps it
abbrev pub StaysIn : List (List ℕ) → List (List ℕ) → Type 0
StaysIn old new = (c : ℕ) (f : List ℕ) → slice_get old c ≡ Some f → slice_get new c ≡ Some f

-- a function has a number, and only it may be new
pub record IsNumbered (fs : List (List ℕ)) (os : List Origin) (f : List ℕ) (o : Origin) (fs' : List (List ℕ)) (os' : List Origin) (c : ℕ) : Type 0 where
  pub found : slice_get fs' c ≡ Some f
  pub few : length fs' ≤ 4096
  pub known_or_new : ((fs' ≡ fs) × (os' ≡ os)) ⊎ ((fs' ≡ fs ++ f ∷ []) × (os' ≡ os ++ o ∷ []))

-- the function with number c is an earlier one and a letter behind it
pub record IsMade (letters fs : List (List ℕ)) (c : ℕ) (o : Origin) : Type 0 where
  pub earlier : o.before < c
  pub letter : o.letter < length letters
  pub made : slice_get fs c ≡ Some (compose (slice_index_or fs o.before []) (slice_index_or letters o.letter []))

-- functions that words make, the identity first, each with its origin
pub record AreExplored (d : Automaton) (letters fs : List (List ℕ)) (os : List Origin) : Type 0 where
  pub reached : All (IsReached d) fs
  pub few : length fs ≤ 4096
  pub first : slice_get fs 0 ≡ Some (image d [])
  pub one_for_each : length os ≡ length fs
  pub origins : (c : ℕ) (o : Origin) → 0 < c → slice_get os c ≡ Some o → IsMade letters fs c o

-- the numbers of the functions that f makes with each of the first n letters behind it
pub record IsRow (letters fs : List (List ℕ)) (f row : List ℕ) (n : ℕ) : Type 0 where
  pub one_for_each : length row ≡ n
  pub each_letter : (g : ℕ) → g < n → slice_get fs (slice_index row g) ≡ Some (compose f (slice_index_or letters g []))

-- a row for each of the first functions
abbrev pub AreRows : List (List ℕ) → List (List ℕ) → List (List ℕ) → Type 0
AreRows letters fs rows = (c : ℕ) (row : List ℕ) → slice_get rows c ≡ Some row → IsRow letters fs (slice_index_or fs c []) row (length letters)

-- for each of the first n letters, what the rows have at it
pub record AreColumns (rows : List (List ℕ)) (n : ℕ) (columns : List (List ℕ)) : Type 0 where
  pub one_for_each : length columns ≡ n
  pub each_letter : (g : ℕ) → g < n → slice_index_or columns g [] ≡ map (λ row. slice_index row g) rows

-- for each of the first n functions the numbers of all functions with it behind them
pub record AreJoined (fs : List (List ℕ)) (n : ℕ) (joins : List ℕ) : Type 0 where
  pub one_for_each : length joins ≡ n * length fs
  pub codes : All (λ code. code < length fs) joins
  pub each_pair : (a b : ℕ) → a < length fs → b < n
      → slice_get fs (slice_index joins (b * length fs + a)) ≡ Some (compose (slice_index_or fs a []) (slice_index_or fs b []))

-- the tables of numbered functions: the identity's number is 0, the number of each byte's function, and the joins of all
pub record AreTables (d : Automaton) (fs : List (List ℕ)) (bytes joins : List ℕ) : Type 0 where
  pub identity : slice_get fs 0 ≡ Some (image d [])
  pub one_for_each : length bytes ≡ 256
  pub each_byte : (b : ℕ) → b < 256 → slice_get fs (slice_index bytes b) ≡ Some (image d (b ∷ []))
  pub joined : AreJoined fs (length fs) joins
