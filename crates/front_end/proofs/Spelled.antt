-- What is read of the grammar's text is the grammar.
use Rattle.std.proofs.Common.{◌≡◌, Result, Ok, subst}
use Rattle.grammar_file.specs.Grammar.{Grammar}
use Rattle.grammar_file.specs.Spelling.{IsReduced}
use Rattle.grammar_file.specs.declared.file.GrammarFault.{GrammarFault}

pub read_is : (r : Result Grammar GrammarFault) (g h : Grammar) → r ≡ Ok g → r ≡ Ok h → IsReduced g → (g ≡ h) × IsReduced h
read_is r g h a b reduced = let e : g ≡ h = cc in (e, subst IsReduced e reduced)
