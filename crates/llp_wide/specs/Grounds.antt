-- By what the cells are filled where one terminal comes next, and what holds of them meanwhile.
use Rattle.std.specs.Prelude.{ℕ, ◌+◌, List, [], ◌∷◌, length}
use Rattle.grammar_file.specs.declared.symbols.Symbol.{Symbol}
use Rattle.grammar_file.specs.declared.symbols.Symbol.TheVariants.{Nonterminal}
use Rattle.grammar_file.specs.Grammar.{IsWellFormed}
use Rattle.grammar_file.specs.Marks.{AreMarksOf}
use Rattle.ll1_sets.specs.Predict.{IsNullable, IsFirst}
use Rattle.llp_tables.specs.Lookbacks.{cells_at}
use Rattle.llp_tables.specs.declared.cells.Members.{Members}
use Rattle.llp_wide.specs.Claims.{Claim}
use Rattle.llp_wide.specs.Classes.{AreClasses, room_in}
use Rattle.llp_wide.specs.Places.{AreSpots}
use Rattle.llp_wide.specs.Settling.{IsWideSettling, AreLeft}
use Rattle.llp_wide.specs.declared.claims.Ground.{Ground}

-- the sets and the places are those of the grammar
pub record IsGround (ground : Ground) : Type 0 where
  pub well_formed : IsWellFormed ground.grammar.now
  pub nullable : AreMarksOf ground.grammar.now (λ a. IsNullable ground.grammar.now (Nonterminal a ∷ [])) ground.nullable.now
  pub first : AreMarksOf ground.grammar.now (λ a. IsFirst ground.grammar.now (Nonterminal a ∷ []) ground.b) ground.first.now
  pub places : AreSpots ground.grammar.now ground.groups.now

-- a class for each terminal of the grammar, each mark, and the number that stands for any
abbrev pub AreClassesOn : Ground → List Members → Type 0
AreClassesOn ground classes = AreClasses (length ground.grammar.now.terminals + 3) (length ground.grammar.now.nonterminals) classes

-- how many more strings their cells may keep
abbrev pub room_on : Ground → List Members → ℕ
room_on ground classes = room_in (length ground.grammar.now.terminals + 3) (length ground.grammar.now.nonterminals) classes

-- the cells fill up, and `last` is the string that came in last
abbrev pub IsSettlingOn : Ground → List Symbol → List Members → List Claim → Type 0
IsSettlingOn ground last classes claims = IsWideSettling ground.grammar.now ground.nullable.now ground.first.now ground.b ground.groups.now last (cells_at classes) claims

-- the cells fill up, and these claims are left
abbrev pub IsFillingOn : Ground → List Members → List Claim → Type 0
IsFillingOn ground classes left = (last : List Symbol) × (claims : List Claim) × IsSettlingOn ground last classes claims × AreLeft (cells_at classes) claims left
