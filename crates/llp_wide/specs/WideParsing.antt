-- What a parse by tables with two tokens of look-back answers.
use Rattle.std.specs.Prelude.{ℕ, ◌-◌, List, Ok}
use Rattle.grammar_file.specs.Grammar.{Grammar, IsWellFormed}
use Rattle.grammar_file.specs.Spelling.{IsReduced}
use Rattle.grammar_file.specs.SyntaxPlace.{IsSyntaxPlace}
use Rattle.glue_summary.specs.declared.fault.ParseFault.{ParseFault}
use Rattle.glue_summary.specs.declared.fault.ParseFault.TheVariants.{Syntax, NoMemory}
use Rattle.glue_summary.specs.Parse.{IsParse}
use Rattle.llp_wide.specs.WideEntries.{WideTable, AreWideTablesOf}

-- the end mark of the tables' grammar
abbrev pub wide_end : WideTable → ℕ
wide_end t = t.width - 1

-- the productions are the left parse of the one tree that derives the word, by any grammar of these tables
abbrev pub IsLeftParseByWide : WideTable → List ℕ → List ℕ → Type 0
IsLeftParseByWide t word ps = (g : Grammar) → AreWideTablesOf g t → IsWellFormed g → IsReduced g → IsParse g word (Ok ps)

-- no sentence goes on at that token, or memory is out
abbrev pub IsFaultByWide : WideTable → List ℕ → ParseFault → Type 0
IsFaultByWide t word (Syntax at) = (g : Grammar) → AreWideTablesOf g t → IsWellFormed g → IsReduced g → IsSyntaxPlace g word at
IsFaultByWide t word NoMemory = Unit {0}
