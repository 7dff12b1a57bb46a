-- What is known of the state in a stretch of a text without what is before it.
use Rattle.std.specs.Prelude.{◌≡◌, ℕ, ◌<◌, ◌≤◌, Bool, true, false, List, length, map, slice_index, slice_index_or}
use Rattle.word_monoid.specs.Folds.{fold_of}
use Rattle.state_monoid.specs.Numbering.{Numbering, function_of, byte_number, composition}
use Rattle.par_lexer.specs.declared.functions.Functions.{Functions}
use Rattle.par_lexer.specs.declared.parts.Behind.{Behind}
use Rattle.par_lexer.specs.declared.parts.Behind.TheVariants.{State, Function}
use Rattle.par_lexer.specs.declared.parts.Known.{Known}
use Rattle.par_lexer.specs.declared.parts.Known.TheVariants.{From, Nowhere}
use Rattle.par_lexer.specs.Places.{state_before}
use Rattle.par_lexer.specs.Table.{lexer}

-- the number of the function of bytes
abbrev pub number_of_bytes : Numbering → List ℕ → ℕ
number_of_bytes m bytes = fold_of (composition m) (map (byte_number m) bytes)

-- a function that leads to the same state from each
abbrev pub IsConstant : Numbering → ℕ → Type 0
IsConstant m number = (s : ℕ) → s < 16 → slice_index (function_of m number) s ≡ slice_index (function_of m number) 0

-- a mark for each function, and each that is marked is constant
pub record AreConstants (m : Numbering) (constant : List Bool) : Type 0 where
  pub all : length constant ≡ length m.functions
  pub each : (number : ℕ) → number < length m.functions → slice_index_or constant number false ≡ true → IsConstant m number

-- the functions of the lexer's automaton
pub record AreFunctions (f : Functions) : Type 0 where
  pub automaton : f.compositions.automaton ≡ lexer
  pub constants : AreConstants f.compositions f.constant.items

-- the function with this number leads from the state before one place to the state before another
pub record LeadsOver (m : Numbering) (text : List ℕ) (from to number : ℕ) : Type 0 where
  pub below : number < length m.functions
  pub leads : slice_index (function_of m number) (state_before text from) ≡ state_before text to

-- the state before the end of a stretch, or a function that leads to it
abbrev pub IsBehind : Numbering → List ℕ → ℕ → ℕ → Behind → Type 0
IsBehind m text from to behind = elim behind [
  | State state ↦ state ≡ state_before text to
  | Function number ↦ LeadsOver m text from to number
]

-- a place in a stretch, and the state before it, or a function that leads over the whole stretch
abbrev pub IsKnown : Numbering → List ℕ → ℕ → ℕ → Known → Type 0
IsKnown m text from to known = elim known [
  | From point ↦ (from ≤ point.place) × (point.place ≤ to) × (point.state ≡ state_before text point.place)
  | Nowhere number ↦ LeadsOver m text from to number
]
