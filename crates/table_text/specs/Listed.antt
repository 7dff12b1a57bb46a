-- How entries are listed, by the sets of a grammar: what is added to a text.
use Rattle.std.specs.Prelude.{◌≡◌, ℕ, List, [], ◌∷◌, ◌++◌, flat_map, Bool, true, Option}
use Rattle.grammar_file.specs.Grammar.{Grammar}
use Rattle.llp_tables.specs.Tables.{Entry, HasEntry}
use Rattle.llp_wide.specs.Wide.{HasWideEntry}
use Rattle.glue_summary.specs.declared.behind.Behind.{Behind}
use Rattle.glue_summary.specs.Pieces.{Pieces}
use Rattle.table_text.specs.Answers.{CountsEntries}
use Rattle.table_text.specs.Entries.{ListsEntries, entry_line, row_lines, terminals}
use Rattle.table_text.specs.Lines.{sizes}
use Rattle.table_text.specs.declared.lookback.Sets.{Sets}
use Rattle.table_text.specs.declared.lookback.Sets.TheVariants as sets

-- the entry where b comes next behind two others, of which the first is passed over where one is looked back at
abbrev pub HasEntryBehind : Grammar → Sets → Behind → ℕ → Option Entry → Type 0
HasEntryBehind g (sets.One t) k b e = HasEntry g k.last b e
HasEntryBehind g (sets.Two t) k b e = HasWideEntry g k.before_last k.last b e

-- the terminals that are looked back at
abbrev pub looked_back : Sets → Behind → List ℕ
looked_back (sets.One t) k = k.last ∷ []
looked_back (sets.Two t) k = k.before_last ∷ k.last ∷ []

abbrev pub two_before : ℕ → ℕ → Behind
two_before z a = record { before_last = z; last = a }

-- the lines of all entries behind z, and of all of them
abbrev pub layer_lines : Grammar → Sets → ℕ → (ℕ → ℕ → Option Entry) → List ℕ
layer_lines g s z entry = flat_map (λ a. row_lines g (looked_back s (two_before z a)) (entry a)) (terminals g)

abbrev pub all_lines : Grammar → Sets → Pieces → List ℕ
all_lines g s entry = flat_map (λ z. layer_lines g s z (entry z)) (terminals g)

-- the line of the entry comes behind the text, whatever it is: there is only one
abbrev pub AddsEntry : Grammar → Sets → Behind → ℕ → List ℕ → List ℕ → Type 0
AddsEntry g s k b before after = (e : Option Entry) → HasEntryBehind g s k b e → after ≡ before ++ entry_line g (looked_back s k) b e

-- the lines of a row, of a layer, and of all layers do
abbrev pub AddsRow : Grammar → Sets → Behind → List ℕ → List ℕ → Type 0
AddsRow g s k before after = (entry : ℕ → Option Entry) → ((b : ℕ) → HasEntryBehind g s k b (entry b)) → after ≡ before ++ row_lines g (looked_back s k) entry

abbrev pub AddsLayer : Grammar → Sets → ℕ → List ℕ → List ℕ → Type 0
AddsLayer g s z before after = (entry : ℕ → ℕ → Option Entry) → ((a b : ℕ) → HasEntryBehind g s (two_before z a) b (entry a b)) → after ≡ before ++ layer_lines g s z entry

abbrev pub AddsLayers : Grammar → Sets → List ℕ → List ℕ → Type 0
AddsLayers g s before after = (entry : Pieces) → ((z a b : ℕ) → HasEntryBehind g s (two_before z a) b (entry z a b)) → after ≡ before ++ all_lines g s entry

-- the lines of all entries of the grammar come behind the text
abbrev pub AddsEntries : Grammar → List ℕ → List ℕ → Type 0
AddsEntries g before after = (lines : List ℕ) × ListsEntries g true lines × (after ≡ before ++ lines)

-- what is told of a grammar before a parse: its sizes, and the lines of all entries where they are asked for
abbrev pub IsHead : Grammar → Bool → List ℕ → Type 0
IsHead g entries text = (count : ℕ) × (lines : List ℕ) × CountsEntries g count × ListsEntries g entries lines × (text ≡ sizes g count ++ lines)
