-- The answer to a grammar file, and to a word: the sizes of the grammar and of its tables, the lines of the entries where they are asked for, and the
-- left parse of the word, or why there are none.
use Rattle.std.specs.Prelude.{◌≡◌, ℕ, List, ◌++◌, Bool, Option, Some, None, Ok, Err}
use Rattle.grammar_file.specs.Grammar.{Grammar}
use Rattle.grammar_file.specs.Spelling.{Spells}
use Rattle.grammar_file.specs.SyntaxPlace.{IsSyntaxPlace}
use Rattle.grammar_file.specs.FaultLines.{line_of_fault as line_of_grammar_fault}
use Rattle.grammar_file.specs.declared.file.GrammarFault.{GrammarFault}
use Rattle.ll1_sets.specs.Predict.{IsLl1}
use Rattle.llp_tables.specs.Lookback.{IsLlp}
use Rattle.llp_tables.specs.Tables.{IsTableFault}
use Rattle.llp_tables.specs.Pairs.{CountsPairs}
use Rattle.llp_tables.specs.FaultLines.{line_of_fault}
use Rattle.llp_tables.specs.declared.fault.TableFault.{TableFault}
use Rattle.llp_wide.specs.Wide.{IsWideLlp}
use Rattle.llp_wide.specs.WideEntries.{CountsTriples}
use Rattle.llp_wide.specs.WideFaults.{IsWideFault, line_of_wide_fault}
use Rattle.llp_wide.specs.declared.fault.WideFault.{WideFault}
use Rattle.glue_summary.specs.Parse.{IsParse}
use Rattle.table_text.specs.Entries.{ListsEntries}
use Rattle.table_text.specs.Lines.{sizes, parse_line}
use Rattle.table_text.specs.Tokens.{tokens_of}
use Rattle.table_text.specs.declared.answer.TableAnswer.{TableAnswer}
use Rattle.table_text.specs.declared.answer.TableAnswer.TheVariants.{Tabled, NoGrammar, Conflict, Syntax}

-- why a grammar has no tables, by its lookback: the line of its least conflict
pub data IsConflict (g : Grammar) : List ℕ → Type 0 where
  behind_one : (fault : TableFault) → g.lookback ≡ 1 → IsTableFault g fault → IsConflict g (line_of_fault g fault)
  behind_two : (fault : WideFault) → g.lookback ≡ 2 → IsWideFault g fault → IsConflict g (line_of_wide_fault g fault)

-- a grammar has tables, by its lookback
pub data HasTables (g : Grammar) : Type 0 where
  with_one : g.lookback ≡ 1 → IsLl1 g → IsLlp g → HasTables g
  with_two : g.lookback ≡ 2 → IsLl1 g → IsWideLlp g → HasTables g

-- how many entries they have
pub data CountsEntries (g : Grammar) (entries : ℕ) : Type 0 where
  of_pairs : g.lookback ≡ 1 → CountsPairs g entries → CountsEntries g entries
  of_triples : g.lookback ≡ 2 → CountsTriples g entries → CountsEntries g entries

-- of a grammar, with its entries or without them, and of a word by its spelling
pub data IsGrammarAnswer (g : Grammar) (entries : Bool) : Option (List ℕ) → TableAnswer → Type 0 where
  -- a conflict comes before all that is said of a word
  conflicting : {word : Option (List ℕ)} {line : List ℕ} → IsConflict g line → IsGrammarAnswer g entries word (Conflict line)
  sized : {count : ℕ} {lines : List ℕ} → HasTables g → CountsEntries g count → ListsEntries g entries lines → IsGrammarAnswer g entries None (Tabled (sizes g count ++ lines))
  parsed : {text ps lines : List ℕ} {count : ℕ} → HasTables g → CountsEntries g count → ListsEntries g entries lines → IsParse g (tokens_of g text) (Ok ps)
      → IsGrammarAnswer g entries (Some text) (Tabled (sizes g count ++ lines ++ parse_line ps))
  no_sentence : {text : List ℕ} {at : ℕ} → HasTables g → IsSyntaxPlace g (tokens_of g text) at → IsGrammarAnswer g entries (Some text) (Syntax at)

-- of a file, with the entries of its grammar or without them, and of a word by its spelling
pub data IsTableAnswer (bytes : List ℕ) (entries : Bool) : Option (List ℕ) → TableAnswer → Type 0 where
  -- the file's first fault comes before all else
  no_grammar : {word : Option (List ℕ)} (fault : GrammarFault) → Spells bytes (Err fault) → IsTableAnswer bytes entries word (NoGrammar (line_of_grammar_fault fault))
  of_grammar : {word : Option (List ℕ)} {answer : TableAnswer} (g : Grammar) → Spells bytes (Ok g) → IsGrammarAnswer g entries word answer → IsTableAnswer bytes entries word answer
