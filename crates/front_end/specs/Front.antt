-- What the front of the compiler finds of a source: its tokens, the rows of its syntax tree, what its names mean and the types of its
-- expressions; or its first diagnostic, where that is of the phases up to types.
use Rattle.std.specs.Prelude.{◌≡◌, ℕ, ◌≤◌, Bool, List, [], length, map, None, slice_index_or}
use Rattle.limits.specs.Limits.{most_source}
use Rattle.ast_rows.specs.TokenRows.{TokenRow, row_of}
use Rattle.ast_rows.specs.NameRows.{NameRows}
use Rattle.source_meaning.specs.Ast.{Program}
use Rattle.source_meaning.specs.Lexemes.{tokens, lexical_fault}
use Rattle.source_meaning.specs.Grammar.{Tree, Prog, ast, leaves}
use Rattle.source_meaning.specs.Rows.{Row, post}
use Rattle.source_meaning.specs.Shape.{shape_faults}
use Rattle.source_meaning.specs.Scope.{scope_faults}
use Rattle.source_meaning.specs.Typing.{type_faults, types}
use Rattle.row_rules.specs.Means.{AreNames}
use Rattle.verdict.specs.Verdict.{IsVerdict, Diagnosed, Limited}
use Rattle.front_end.specs.declared.analysis.Analysis.{Analysis}
use Rattle.front_end.specs.declared.refusal.Refusal.{Refusal}
use Rattle.front_end.specs.declared.refusal.Refusal.TheVariants.{Diagnostic, Limit, NoMemory}

-- a text without a lexical fault, and its tokens
pub record AreTokens (text : List ℕ) (rows : List TokenRow) : Type 0 where
  pub fits : length text ≤ most_source
  pub lexical : lexical_fault text ≡ None
  pub are : rows ≡ map row_of (tokens text)

-- the rows of a tree over the tokens of the text that has no fault of shape
pub record AreRows (text : List ℕ) (rows : List Row) (t : Tree Prog) : Type 0 where
  pub tree : leaves t ≡ tokens text
  pub shaped : shape_faults (ast t) ≡ []
  pub are : rows ≡ post (ast t)

-- a source without a fault of the phases up to types, by the tree over its tokens
pub record IsChecked (text : List ℕ) (t : Tree Prog) : Type 0 where
  pub fits : length text ≤ most_source
  pub lexical : lexical_fault text ≡ None
  pub tree : leaves t ≡ tokens text
  pub shaped : shape_faults (ast t) ≡ []
  pub scoped : scope_faults (length (tokens text)) (ast t) ≡ []
  pub typed : type_faults (ast t) ≡ []

-- what rows tell of the names of a program
abbrev pub AreNamesOf : NameRows → Program → Type 0
AreNamesOf names p = AreNames p (λ k. slice_index_or names.meant k None) (λ k. slice_index_or names.numbers k 0) names.main

-- What was found of such a source: its tokens, the rows of its syntax tree, what its names mean, the types of its expressions.
pub record IsAnalysis (text : List ℕ) (t : Tree Prog) (f : Analysis) : Type 0 where
  pub checked : IsChecked text t
  pub tokens_are : f.tokens ≡ map row_of (tokens text)
  pub rows_are : f.rows ≡ post (ast t)
  pub names_are : AreNamesOf f.names (ast t)
  pub meant_many : length f.names.meant ≡ length f.rows
  pub numbers_many : length f.names.numbers ≡ length f.rows
  pub types_are : f.types ≡ types (ast t)

-- the refusal tells this of the source, unless memory is out
abbrev pub TellsThat : Type 0 → Refusal → Type 0
TellsThat A (Diagnostic code at) = A
TellsThat A (Limit code at bytes) = A
TellsThat A NoMemory = Unit {0}

-- the refusal is what the compiler says of the source, where its constants are folded or not
abbrev pub IsRefusedBy : Bool → List ℕ → Refusal → Type 0
IsRefusedBy fold text (Diagnostic code at) = IsVerdict fold text (Diagnosed code at)
IsRefusedBy fold text (Limit code at bytes) = IsVerdict fold text (Limited code at bytes)
IsRefusedBy fold text NoMemory = Unit {0}

-- the refusal is what the compiler says of the source in both cases; the only limit is that of the source's bytes
abbrev pub IsRefused : List ℕ → Refusal → Type 0
IsRefused text (Diagnostic code at) = (fold : Bool) → IsVerdict fold text (Diagnosed code at)
IsRefused text (Limit code at bytes) = (code ≡ 601) × ((fold : Bool) → IsVerdict fold text (Limited code at bytes))
IsRefused text NoMemory = Unit {0}
