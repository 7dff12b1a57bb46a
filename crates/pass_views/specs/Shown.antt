-- What is shown of a source: the arrays of a pass as tables, for any source that reaches the pass, and those of all passes as one page.
use Rattle.std.specs.Prelude.{◌≡◌, ℕ, ◌≤◌, false, List, [], ◌∷◌, ◌++◌, length, map, None, Option, codes, nat_lt, option_map}
use Rattle.std.specs.List.{find}
use Rattle.limits.specs.Limits.{most_source, most_frame}
use Rattle.ast_rows.specs.TokenRows.{row_of}
use Rattle.command_line.specs.declared.command.Pass.{Pass}
use Rattle.command_line.specs.declared.command.Pass.TheVariants.{States, Tokens, Pairs, Parse, Rows, Names, Types, Frames, Places, Code, All}
use Rattle.front_end.specs.Front.{IsChecked}
use Rattle.code_rules.specs.Pieces.{places, sizes}
use Rattle.grammar_file.specs.SyntaxPlace.{ended}
use Rattle.llp_tables.specs.Tables.{AreTables, Entry}
use Rattle.par_lexer.specs.Table.{lexer}
use Rattle.pass_page.specs.Page.{page}
use Rattle.pass_tables.specs.Tables.{state_columns, token_columns, pair_columns, parse_columns, row_columns, name_columns, type_columns, function_names, frame_columns, place_columns, code_columns}
use Rattle.row_rules.specs.Visible.{declares}
use Rattle.rv_code.specs.Code.{layout_of, words}
use Rattle.source_meaning.specs.Ast.{Program}
use Rattle.source_meaning.specs.Frames.{depths, frame}
use Rattle.source_meaning.specs.Grammar.{grammar, Tree, Prog, ast, leaves, left_parse, number_of}
use Rattle.source_meaning.specs.Lexemes.{tokens, lexical_fault}
use Rattle.source_meaning.specs.Rows.{post}
use Rattle.source_meaning.specs.Scope.{bindings, scope_faults, sites}
use Rattle.source_meaning.specs.Shape.{shape_faults}
use Rattle.source_meaning.specs.Typing.{types}
use Rattle.table_text.specs.Lines.{line}
use Rattle.text_columns.specs.Columns.{Column, table_text}
use Rattle.verdict.specs.Verdict.{Accepted, IsVerdict, word}

-- ---- how far a source comes

-- the source has tokens
pub record IsLexed (text : List ℕ) : Type 0 where
  pub fits : length text ≤ most_source
  pub lexical : lexical_fault text ≡ None

-- and they have a parse tree
pub record IsParsed (text : List ℕ) (t : Tree Prog) : Type 0 where
  pub lexed : IsLexed text
  pub tree : leaves t ≡ tokens text

-- which has no fault of shape
pub record IsShaped (text : List ℕ) (t : Tree Prog) : Type 0 where
  pub parsed : IsParsed text t
  pub shaped : shape_faults (ast t) ≡ []

-- and none of scope
pub record IsScoped (text : List ℕ) (t : Tree Prog) : Type 0 where
  pub shaped : IsShaped text t
  pub scoped : scope_faults (length (tokens text)) (ast t) ≡ []

-- ---- what is shown

-- for each node the number of the variable that it declares, where it declares one
abbrev pub numbers_declared : Program → List (Option ℕ)
numbers_declared p = map (λ s. option_map (λ v. v.number) (declares s.scope s.part)) (sites p)

-- the arrays of a pass, as columns, of a source that reaches it
pub data Arrays (text : List ℕ) : Pass → List Column → Type 0 where
  state_arrays : length text ≤ most_source → Arrays text States (state_columns lexer text)
  token_arrays : IsLexed text → Arrays text Tokens (token_columns text (map row_of (tokens text)))
  pair_arrays : (t : Tree Prog) (entry : ℕ → ℕ → Option Entry) → IsParsed text t → AreTables grammar entry → Arrays text Pairs (pair_columns grammar entry (ended grammar (word text)))
  parse_arrays : (t : Tree Prog) → IsParsed text t → Arrays text Parse (parse_columns grammar (map number_of (left_parse t)))
  row_arrays : (t : Tree Prog) → IsShaped text t → Arrays text Rows (row_columns text (map row_of (tokens text)) (post (ast t)))
  name_arrays : (t : Tree Prog) → IsScoped text t → Arrays text Names (name_columns (post (ast t)) (bindings (ast t)) (numbers_declared (ast t)))
  type_arrays : (t : Tree Prog) → IsChecked text t → Arrays text Types (type_columns (post (ast t)) (types (ast t)))
  frame_arrays : (t : Tree Prog) → IsChecked text t → find (λ f. nat_lt most_frame (frame f).bytes) (ast t) ≡ None →
      Arrays text Frames (frame_columns (function_names text (map row_of (tokens text)) (post (ast t))) (map (λ f. frame f) (ast t)))
  place_arrays : (p : Program) → IsVerdict false text (Accepted p) → Arrays text Places (place_columns (post p) (depths p) (sizes (layout_of p) p) (places (layout_of p) p))
  code_arrays : (p : Program) → IsVerdict false text (Accepted p) → Arrays text Code (code_columns (words p))

-- the arrays of all passes
pub record AllArrays : Type 0 where
  pub of_states : List Column
  pub of_tokens : List Column
  pub of_pairs : List Column
  pub of_parse : List Column
  pub of_rows : List Column
  pub of_names : List Column
  pub of_types : List Column
  pub of_frames : List Column
  pub of_places : List Column
  pub of_code : List Column

pub record AreAllArrays (text : List ℕ) (all : AllArrays) : Type 0 where
  pub states_are : Arrays text States all.of_states
  pub tokens_are : Arrays text Tokens all.of_tokens
  pub pairs_are : Arrays text Pairs all.of_pairs
  pub parse_are : Arrays text Parse all.of_parse
  pub rows_are : Arrays text Rows all.of_rows
  pub names_are : Arrays text Names all.of_names
  pub types_are : Arrays text Types all.of_types
  pub frames_are : Arrays text Frames all.of_frames
  pub places_are : Arrays text Places all.of_places
  pub code_are : Arrays text Code all.of_code

-- a table behind a line with its name
abbrev pub headed : List ℕ → List Column → List ℕ
headed name columns = line name ++ table_text columns

-- the same behind an empty line
abbrev pub apart : List ℕ → List Column → List ℕ
apart name columns = 10 ∷ headed name columns

-- all tables, with an empty line between two
abbrev pub all_tables : AllArrays → List ℕ
all_tables all =
    headed (codes "states") all.of_states ++ apart (codes "tokens") all.of_tokens ++ apart (codes "pairs") all.of_pairs ++ apart (codes "parse") all.of_parse
    ++ apart (codes "rows") all.of_rows ++ apart (codes "names") all.of_names ++ apart (codes "types") all.of_types ++ apart (codes "frames") all.of_frames
    ++ apart (codes "places") all.of_places ++ apart (codes "code") all.of_code

-- what is shown of a pass: its table, or those of all passes
pub data Shows (text : List ℕ) : Pass → List ℕ → Type 0 where
  one_shown : {pass : Pass} {columns : List Column} → Arrays text pass columns → Shows text pass (table_text columns)
  all_shown : (all : AllArrays) → AreAllArrays text all → Shows text All (all_tables all)

-- the tables of the page, each with its name: those of states and of pairs are not among them
abbrev pub named_arrays : AllArrays → List (List ℕ × List Column)
named_arrays all =
    (codes "tokens", all.of_tokens) ∷ (codes "parse", all.of_parse) ∷ (codes "rows", all.of_rows) ∷ (codes "names", all.of_names) ∷ (codes "types", all.of_types)
    ∷ (codes "frames", all.of_frames) ∷ (codes "places", all.of_places) ∷ (codes "code", all.of_code) ∷ []

-- the page of a source: its tokens in it, its tree, and the arrays of all passes
pub data IsPage (text : List ℕ) : List ℕ → Type 0 where
  page_shown : (t : Tree Prog) (all : AllArrays) → IsShaped text t → AreAllArrays text all →
      IsPage text (page text (map row_of (tokens text)) (post (ast t)) (named_arrays all))
