-- What is told of stretches of a text.
use Rattle.std.specs.Prelude.{◌≡◌, ℕ, ◌-◌, ◌<◌, ◌≤◌, List, length, take, drop, slice_get, Option, Some, None}
use Rattle.list_cuts.specs.Cuts.{number_at, start_of}
use Rattle.state_monoid.specs.Automaton.{run}
use Rattle.state_monoid.specs.Numbering.{Numbering}
use Rattle.par_lexer.specs.declared.columns.Columns.{Columns}
use Rattle.par_lexer.specs.declared.faults.Diagnostic.{Diagnostic}
use Rattle.par_lexer.specs.declared.parts.Part.{Part}
use Rattle.par_lexer.specs.declared.stretch.Told.{Told}
use Rattle.par_lexer.specs.declared.stretch.Told.TheVariants.{Tokens, Fault}
use Rattle.par_lexer.specs.PieceRows.{first_fault, Awaits}
use Rattle.par_lexer.specs.Places.{state_before, told_behind}
use Rattle.par_lexer.specs.Known.{IsBehind}
use Rattle.par_lexer.specs.Table.{lexer}

-- columns of what is told between two places, where no piece has a fault
pub record AreTokens (text : List ℕ) (from to : ℕ) (made : Columns) : Type 0 where
  pub columns : Awaits made.kinds.items made.starts.items made.lengths.items (told_behind text from) (told_behind text to)
  pub faultless : first_fault (told_behind text from) ≡ first_fault (told_behind text to)

-- the tokens between two places, or the first fault from the first place on
abbrev pub Tells : List ℕ → ℕ → ℕ → Told → Type 0
Tells text from to told = elim told [
  | Tokens columns ↦ AreTokens text from to columns
  | Fault fault ↦ first_fault (told_behind text from) ≡ Some (fault.code, fault.at)
]

-- from this state, the bytes between two places lead to the state before the second
pub record LeadsTo (text : List ℕ) (to place state : ℕ) : Type 0 where
  pub within : place ≤ to
  pub below : state < 16
  pub leads : run lexer state (take (to - place) (drop place text)) ≡ state_before text to

-- what a stretch tells by itself: all from a place on, and the state behind
pub record IsPart (m : Numbering) (text : List ℕ) (from to : ℕ) (part : Part) : Type 0 where
  pub behind_start : from ≤ part.known
  pub before_end : part.known ≤ to
  pub tells : Tells text part.known to part.told
  pub behind : IsBehind m text from to part.behind

-- the same of each of the stretches that end at these places
pub record ArePartsOf (m : Numbering) (text ends : List ℕ) (parts : List Part) : Type 0 where
  pub many : length parts ≡ length ends
  pub each : (c : ℕ) (part : Part) → slice_get parts c ≡ Some part → IsPart m text (start_of ends c) (number_at ends c) part

-- the states before these stretches
pub record AreStatesBefore (text ends : List ℕ) (parts : List Part) (states : List ℕ) : Type 0 where
  pub many : length states ≡ length parts
  pub each : (c : ℕ) → c < length states → number_at states c ≡ state_before text (start_of ends c)

-- what is told of a stretch up to where its part begins
abbrev pub TellsFront : List ℕ → List ℕ → List Part → ℕ → Told → Type 0
TellsFront text ends parts c told = (part : Part) → slice_get parts c ≡ Some part → Tells text (start_of ends c) part.known told

-- the same of each
pub record AreFrontsOf (text ends : List ℕ) (parts : List Part) (fronts : List Told) : Type 0 where
  pub many : length fronts ≡ length parts
  pub each : (c : ℕ) (front : Told) → slice_get fronts c ≡ Some front → TellsFront text ends parts c front

-- columns of what is told up to a place, or the first fault
abbrev pub IsAdded : List ℕ → ℕ → Columns → Option Diagnostic → Type 0
IsAdded text to made fault = elim fault [
  | None ↦ AreTokens text 0 to made
  | Some f ↦ first_fault (told_behind text 0) ≡ Some (f.code, f.at)
]
