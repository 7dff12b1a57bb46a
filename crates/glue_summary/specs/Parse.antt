-- What parsing answers.
use Rattle.std.specs.Prelude.{◌≡◌, ℕ, List, Result, Ok, Err}
use Rattle.grammar_file.specs.Grammar.{Grammar}
use Rattle.grammar_file.specs.Derivation.{IsLeftParse}
use Rattle.grammar_file.specs.SyntaxPlace.{IsSyntaxPlace}
use Rattle.glue_summary.specs.declared.fault.ParseFault.{ParseFault}
use Rattle.glue_summary.specs.declared.fault.ParseFault.TheVariants.{Syntax, NoMemory}

-- the left parse of the one tree that derives the word, or the place where no sentence goes on
abbrev pub IsParse : Grammar → List ℕ → Result (List ℕ) ParseFault → Type 0
IsParse g word (Ok ps) = IsLeftParse g word ps × ((qs : List ℕ) → IsLeftParse g word qs → qs ≡ ps)
IsParse g word (Err (Syntax at)) = IsSyntaxPlace g word at
IsParse g word (Err NoMemory) = ⊥
