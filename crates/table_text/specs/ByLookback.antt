-- The sets of a grammar, by how many terminals are looked back at.
use Rattle.std.specs.Prelude.{◌≡◌, ℕ, List}
use Rattle.grammar_file.specs.Grammar.{Grammar}
use Rattle.grammar_file.specs.SyntaxPlace.{IsSyntaxPlace}
use Rattle.llp_tables.specs.LookbackTable.{AreLookbacksOf}
use Rattle.llp_wide.specs.WideLookbacks.{AreWideLookbacksOf}
use Rattle.glue_summary.specs.declared.fault.ParseFault.{ParseFault}
use Rattle.glue_summary.specs.declared.fault.ParseFault.TheVariants as parse
use Rattle.table_text.specs.Answers.{IsConflict}
use Rattle.table_text.specs.declared.lookback.Sets.{Sets}
use Rattle.table_text.specs.declared.lookback.Sets.TheVariants as sets
use Rattle.table_text.specs.declared.lookback.Untabled.{Untabled}
use Rattle.table_text.specs.declared.lookback.Untabled.TheVariants as untabled

abbrev pub AreSetsOf : Grammar → Sets → Type 0
AreSetsOf g (sets.One t) = (g.lookback ≡ 1) × AreLookbacksOf g t
AreSetsOf g (sets.Two t) = (g.lookback ≡ 2) × AreWideLookbacksOf g t

-- the line of its least conflict, or memory is out
abbrev pub IsUntabled : Grammar → Untabled → Type 0
IsUntabled g (untabled.Conflict line) = IsConflict g line
IsUntabled g untabled.NoMemory = Unit {0}

-- no sentence goes on at that token, or memory is out
abbrev pub IsWordFault : Grammar → List ℕ → ParseFault → Type 0
IsWordFault g word (parse.Syntax at) = IsSyntaxPlace g word at
IsWordFault g word parse.NoMemory = Unit {0}
