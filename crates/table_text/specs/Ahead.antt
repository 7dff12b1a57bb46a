-- What a nonterminal leaves on the stack once it has read the terminal that comes next.
use Rattle.std.specs.Prelude.{◌≡◌, ℕ, ◌-◌, List, [], ◌∷◌, ◌++◌, length, Bool, false, if◌then◌else◌, Option, Some, None, slice_get, slice_index_or}
use Rattle.grammar_file.specs.declared.symbols.Symbol.{Symbol}
use Rattle.grammar_file.specs.declared.symbols.Symbol.TheVariants.{Terminal, Nonterminal}
use Rattle.grammar_file.specs.Grammar.{Grammar}
use Rattle.grammar_file.specs.Drive.{Reads}
use Rattle.grammar_file.specs.Marks.{AreMarksOf}
use Rattle.ll1_sets.specs.Laws.Ll1.{IsReached}
use Rattle.ll1_sets.specs.Predict.{IsFirst, IsLl1, ArePredictions}
use Rattle.ll1_sets.specs.Width.{width_of}
use Rattle.table_text.specs.declared.ahead.Ahead.{Ahead}

-- what is left of the symbol once b has been read of it, on any stack that a derivation reaches
abbrev pub IsLeftOf : Grammar → ℕ → Symbol → List Symbol → Type 0
IsLeftOf g b s opens = (ps : List ℕ) (below left : List Symbol) → IsReached g (s ∷ below) → Reads g b ps (s ∷ []) left → left ≡ opens

-- the sets of b
abbrev pub AreSetsAhead : Grammar → ℕ → List Bool → List (Option ℕ) → Type 0
AreSetsAhead g b first predictions = AreMarksOf g (λ a. IsFirst g (Nonterminal a ∷ []) b) first × ArePredictions g b predictions

-- the same by the sets of whatever terminal
abbrev pub IsLeftBy : Grammar → List Bool → List (Option ℕ) → ℕ → List Symbol → Type 0
IsLeftBy g first predictions a opens = (b : ℕ) → IsLl1 g → AreSetsAhead g b first predictions → IsLeftOf g b (Nonterminal a) opens

-- without the nonterminals on top that aren't marked
abbrev pub behind_unmarked : List Bool → List Symbol → List Symbol
behind_unmarked marks [] = []
behind_unmarked marks (Terminal c ∷ stack) = Terminal c ∷ stack
behind_unmarked marks (Nonterminal a ∷ stack) = if slice_index_or marks a false then Nonterminal a ∷ stack else behind_unmarked marks stack

-- whatever the nonterminal leaves once b has been read of it, the stack leaves too
abbrev pub LeadsTo : Grammar → List Bool → List (Option ℕ) → ℕ → List Symbol → Type 0
LeadsTo g first predictions a stack =
    (b : ℕ) → IsLl1 g → AreSetsAhead g b first predictions → (ps : List ℕ) (below left : List Symbol) → IsReached g (Nonterminal a ∷ below) → Reads g b ps (Nonterminal a ∷ []) left
    → (qs : List ℕ) × Reads g b qs stack left × IsReached g (stack ++ below)

-- what is known where b comes next: what each nonterminal leaves that it may begin
pub record IsAhead (g : Grammar) (b : ℕ) (ahead : Ahead) : Type 0 where
  pub opens : (a : ℕ) → IsFirst g (Nonterminal a ∷ []) b → IsLeftOf g b (Nonterminal a) (slice_index_or ahead.opens.items a [])

-- the same of each terminal, the two marks among them
pub record AreAheads (g : Grammar) (aheads : List Ahead) : Type 0 where
  pub count : length aheads ≡ width_of g
  pub each : (b : ℕ) (ahead : Ahead) → slice_get aheads b ≡ Some ahead → IsAhead g b ahead

-- what a last symbol leaves; a terminal leaves nothing
abbrev pub opens_behind : Option Ahead → Option Symbol → List Symbol
opens_behind None last = []
opens_behind (Some ahead) None = []
opens_behind (Some ahead) (Some (Terminal c)) = []
opens_behind (Some ahead) (Some (Nonterminal a)) = slice_index_or ahead.opens.items a []

-- what these symbols leave once b has been read of the last one
abbrev pub opens_at : List Ahead → ℕ → List Symbol → List Symbol
opens_at aheads b closes = opens_behind (slice_get aheads b) (slice_get closes (length closes - 1))
