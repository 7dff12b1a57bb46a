-- What is told of a grammar and of a word, by what comes before a parse and by the word's tokens.
use Rattle.std.proofs.Common.{◌≡◌, ◌∙◌, ◌++◌, ℕ, List, [], Bool, true, false, Some, None, Ok, sym, ap, subst, append-nil}
use Rattle.grammar_file.specs.Grammar.{Grammar}
use Rattle.grammar_file.specs.SyntaxPlace.{IsSyntaxPlace}
use Rattle.glue_summary.specs.Parse.{IsParse}
use Rattle.table_text.specs.Answers.{HasTables, with_one, with_two, CountsEntries, IsGrammarAnswer, sized, parsed, no_sentence}
use Rattle.table_text.specs.ByLookback.{AreSetsOf}
use Rattle.table_text.specs.Entries.{unlisted}
use Rattle.table_text.specs.Lines.{sizes, parse_line}
use Rattle.table_text.specs.Listed.{AddsEntries, IsHead}
use Rattle.table_text.specs.Tokens.{tokens_of}
use Rattle.table_text.specs.declared.answer.TableAnswer.{TableAnswer}
use Rattle.table_text.specs.declared.answer.TableAnswer.TheVariants.{Tabled, Syntax}
use Rattle.table_text.specs.declared.lookback.Sets.{Sets}
use Rattle.table_text.specs.declared.lookback.Sets.TheVariants as sets

-- a grammar with sets has tables
pub sets_make_tables : (g : Grammar) (s : Sets) → AreSetsOf g s → HasTables g
sets_make_tables g (sets.One t) h = with_one h.0 h.1.ll1 h.1.llp
sets_make_tables g (sets.Two t) h = with_two h.0 h.1.ll1 h.1.llp

-- the sizes alone, and with the entries behind them
pub told_sizes : (g : Grammar) (count : ℕ) (text : List ℕ) → CountsEntries g count → text ≡ sizes g count → IsHead g false text
told_sizes g count text counts is = (count, [], counts, unlisted, is ∙ sym (append-nil (sizes g count)))

pub told_entries : (g : Grammar) (count : ℕ) (before text : List ℕ) → CountsEntries g count → before ≡ sizes g count → AddsEntries g before text → IsHead g true text
told_entries g count before text counts is added = (count, added.0, counts, added.1, added.2 ∙ ap (λ (t : List ℕ). t ++ added.0) is)

pub told_alone : (g : Grammar) (entries : Bool) (head : List ℕ) (answer : TableAnswer) → HasTables g → IsHead g entries head → answer ≡ Tabled head → IsGrammarAnswer g entries None answer
told_alone g entries head answer tables h is = subst (IsGrammarAnswer g entries None) (sym (is ∙ ap Tabled h.4)) (sized tables h.2 h.3)

pub told_parse : (g : Grammar) (entries : Bool) (text tokens ps shown head : List ℕ) (answer : TableAnswer) → HasTables g → IsHead g entries head → tokens ≡ tokens_of g text
    → IsParse g tokens (Ok ps) → shown ≡ ps → answer ≡ Tabled (head ++ parse_line shown) → IsGrammarAnswer g entries (Some text) answer
told_parse g entries text tokens ps shown head answer tables h are parse same is =
    subst (IsGrammarAnswer g entries (Some text)) (sym (is ∙ (λ i. Tabled (h.4 i ++ parse_line (same i)))))
    (parsed tables h.2 h.3 (subst (λ t. IsParse g t (Ok ps)) are parse))

pub told_place : (g : Grammar) (entries : Bool) (text tokens : List ℕ) (at : ℕ) → HasTables g → tokens ≡ tokens_of g text → IsSyntaxPlace g tokens at → IsGrammarAnswer g entries (Some text) (Syntax at)
told_place g entries text tokens at tables are place = no_sentence tables (subst (λ t. IsSyntaxPlace g t at) are place)
