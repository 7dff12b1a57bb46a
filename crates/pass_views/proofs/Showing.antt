-- What is shown of a source is one text, and what refuses a source before a pass leaves nothing to show of it.
use Rattle.std.proofs.Common.{◌≡◌, ◌≢◌, ◌∙◌, ℕ, ◌-◌, ◌*◌, ◌<◌, ◌≤◌, ◌⊎◌, inl, inr, false, List, [], ◌∷◌, length, map, Option, Some, None, nat_lt, Result, Ok, Err, refl, sym, ap, subst, arith}
use Rattle.std.specs.Prelude.{IfErr, IsErrAnd}
use Rattle.std.specs.List.{find}
use Rattle.std.proofs.lemmas.Bool.{cases_lt}
use Rattle.limits.specs.Limits.{most_source, most_frame, most_code}
use Rattle.ast_rows.specs.TokenRows.{TokenRow, row_of}
use Rattle.command_line.specs.declared.command.Pass.{Pass}
use Rattle.code_rules.specs.Pieces.{places, sizes}
use Rattle.command_line.specs.declared.command.Pass.TheVariants.{States, Tokens, Pairs, Parse, Rows, Names, Types, Frames, Places, Code, All}
use Rattle.front_end.specs.Front.{AreRows, AreTokens, IsChecked, IsRefused, IsRefusedBy, TellsThat}
use Rattle.front_end.specs.declared.refusal.Refusal.{Refusal}
use Rattle.front_end.specs.declared.refusal.Refusal.TheVariants.{Diagnostic, Limit, NoMemory}
use Rattle.grammar_file.specs.Grammar.{Grammar, end_mark}
use Rattle.grammar_file.specs.SyntaxPlace.{ended}
use Rattle.llp_tables.specs.EntryTable.{AreTablesOf, EntryTable}
use Rattle.llp_tables.specs.Tables.{AreTables, Entry}
use Rattle.par_lexer.specs.Table.{lexer}
use Rattle.pass_page.specs.Page.{page}
use Rattle.pass_tables.specs.Tables.{state_columns, token_columns, pair_columns, parse_columns, row_columns, name_columns, type_columns, function_names, frame_columns, place_columns, code_columns}
use Rattle.rv_code.specs.Code.{instructions, layout_of, words}
use Rattle.source_meaning.specs.Ast.{Function, Program}
use Rattle.source_meaning.specs.Frames.{Frame, depths, frame}
use Rattle.source_meaning.specs.Grammar.{grammar, Tree, Prog, ast, leaves, left_parse, number_of, terminal_number}
use Rattle.source_meaning.specs.Lexemes.{Token, tokens, place_of}
use Rattle.source_meaning.specs.Rows.{Row, post}
use Rattle.source_meaning.specs.Scope.{bindings, scope_faults}
use Rattle.source_meaning.specs.Typing.{type_faults, types}
use Rattle.source_meaning.specs.declared.kinds.Terminal.{Terminal}
use Rattle.source_meaning.specs.declared.kinds.ValueType.{ValueType}
use Rattle.verdict.specs.Verdict.{Verdict, Diagnosed, Limited, Accepted, IsVerdict, word}
use Rattle.back_end.specs.Coded.{AreFrames}
use Rattle.pass_views.specs.Stopped.{Stops}
use Rattle.pass_views.specs.Shown.{AllArrays, AreAllArrays, Arrays, IsLexed, IsPage, IsParsed, IsShaped, IsScoped, Shows, state_arrays, token_arrays, pair_arrays, parse_arrays, row_arrays, name_arrays, type_arrays, frame_arrays, place_arrays, code_arrays, one_shown, all_shown, page_shown, all_tables, named_arrays, numbers_declared}
use Rattle.text_columns.specs.Columns.{Column, table_text}
use Rattle.back_end.specs.Laws.HandedOn.{handed_on}

abbrev pub OneTree : Type 0
OneTree = (text : List ℕ) (t u : Tree Prog) → leaves t ≡ tokens text → leaves u ≡ tokens text → t ≡ u

-- a grammar has one table of entries
abbrev pub OneTable : Type 0
OneTable = (g : Grammar) (entry other : ℕ → ℕ → Option Entry) → AreTables g entry → AreTables g other → (a b : ℕ) → entry a b ≡ other a b

-- ---- the arrays of a pass

pub lexed_as : (text : List ℕ) (ts : List TokenRow) → AreTokens text ts → IsLexed text
lexed_as text ts are = record { fits = are.fits; lexical = are.lexical }

pub shaped_as : (text : List ℕ) (ts : List TokenRow) (rs : List Row) (t : Tree Prog) → AreTokens text ts → AreRows text rs t → IsShaped text t
shaped_as text ts rs t are rows = record { parsed = record { lexed = lexed_as text ts are; tree = rows.tree }; shaped = rows.shaped }

pub checked_as : (text : List ℕ) (ts : List TokenRow) (rs : List Row) (t : Tree Prog) → AreTokens text ts → AreRows text rs t → scope_faults (length (tokens text)) (ast t) ≡ []
    → type_faults (ast t) ≡ [] → IsChecked text t
checked_as text ts rs t are rows scoped typed =
    record { fits = are.fits; lexical = are.lexical; tree = rows.tree; shaped = rows.shaped; scoped = scoped; typed = typed }

pub are_states : (text : List ℕ) (columns : List Column) → length text ≤ most_source → columns ≡ state_columns lexer text → Arrays text States columns
are_states text columns fits is = subst (Arrays text States) (sym is) (state_arrays fits)

pub are_tokens : (text : List ℕ) (ts : List TokenRow) (columns : List Column) → AreTokens text ts → columns ≡ token_columns text ts → Arrays text Tokens columns
are_tokens text ts columns are is = subst (Arrays text Tokens) (sym (is ∙ ap (token_columns text) are.are)) (token_arrays (lexed_as text ts are))

-- the terminals of tokens as a word of the grammar
numbers_of : (ts : List Token) → map terminal_number (map (λ (r : TokenRow). r.terminal) (map row_of ts)) ≡ map (λ (t : Token). terminal_number t.terminal) ts
numbers_of [] = refl
numbers_of (t ∷ ts) = ap (λ (ns : List ℕ). terminal_number t.terminal ∷ ns) (numbers_of ts)

-- the mark behind a text, by how wide a table is
pub mark_is : (g : Grammar) (t : EntryTable) (width mark : ℕ) → AreTablesOf g t → width ≡ t.width → mark ≡ width - 1 → mark ≡ end_mark g
mark_is g t width mark are a b = let w = are.width_is in omega arith

pub are_pairs : (text : List ℕ) (ts : List TokenRow) (kinds : List Terminal) (columns : List Column) (t : Tree Prog) (entry : ℕ → ℕ → Option Entry) → AreTokens text ts → leaves t ≡ tokens text
    → kinds ≡ map (λ (r : TokenRow). r.terminal) ts → AreTables grammar entry → columns ≡ pair_columns grammar entry (ended grammar (map terminal_number kinds)) → Arrays text Pairs columns
are_pairs text ts kinds columns t entry are tree of_tokens table is =
    let same : map terminal_number kinds ≡ word text =
    ap (map terminal_number) (of_tokens ∙ ap (map (λ (r : TokenRow). r.terminal)) are.are) ∙ numbers_of (tokens text) in
    subst (Arrays text Pairs) (sym (is ∙ ap (λ (w : List ℕ). pair_columns grammar entry (ended grammar w)) same)) (pair_arrays t entry (record { lexed = lexed_as text ts are; tree = tree }) table)

pub are_steps : (text : List ℕ) (ts : List TokenRow) (ps : List ℕ) (columns : List Column) (t : Tree Prog) → AreTokens text ts → leaves t ≡ tokens text → map number_of (left_parse t) ≡ ps
    → columns ≡ parse_columns grammar ps → Arrays text Parse columns
are_steps text ts ps columns t are tree parse is =
    subst (Arrays text Parse) (sym (is ∙ ap (parse_columns grammar) (sym parse))) (parse_arrays t (record { lexed = lexed_as text ts are; tree = tree }))

pub are_rows : (text : List ℕ) (ts : List TokenRow) (rs : List Row) (columns : List Column) (t : Tree Prog) → AreTokens text ts → AreRows text rs t → columns ≡ row_columns text ts rs
    → Arrays text Rows columns
are_rows text ts rs columns t are rows is =
    subst (Arrays text Rows) (sym (is ∙ (λ i. row_columns text (are.are i) (rows.are i)))) (row_arrays t (shaped_as text ts rs t are rows))

pub are_types : (text : List ℕ) (rs : List Row) (tys : List (Option ValueType)) (columns : List Column) (t : Tree Prog) → IsChecked text t → rs ≡ post (ast t) → tys ≡ types (ast t)
    → columns ≡ type_columns rs tys → Arrays text Types columns
are_types text rs tys columns t checked rows are is = subst (Arrays text Types) (sym (is ∙ (λ i. type_columns (rows i) (are i)))) (type_arrays t checked)

pub are_frames : (text : List ℕ) (ts : List TokenRow) (rs : List Row) (fs : List Frame) (columns : List Column) (t : Tree Prog) → IsChecked text t → ts ≡ map row_of (tokens text)
    → rs ≡ post (ast t) → AreFrames (ast t) fs → columns ≡ frame_columns (function_names text ts rs) fs → Arrays text Frames columns
are_frames text ts rs fs columns t checked are rows framed is =
    subst (Arrays text Frames) (sym (is ∙ (λ i. frame_columns (function_names text (are i) (rows i)) (framed.frames_are i)))) (frame_arrays t checked framed.none_large)

pub are_places : (text : List ℕ) (rs : List Row) (ds ss ps : List ℕ) (columns : List Column) (p : Program) → IsVerdict false text (Accepted p) → rs ≡ post p → ds ≡ depths p
    → ss ≡ sizes (layout_of p) p → ps ≡ places (layout_of p) p → columns ≡ place_columns rs ds ss ps → Arrays text Places columns
are_places text rs ds ss ps columns p accepted rows deep sized placed is =
    subst (Arrays text Places) (sym (is ∙ (λ i. place_columns (rows i) (deep i) (sized i) (placed i)))) (place_arrays p accepted)

pub are_words : (text ws : List ℕ) (columns : List Column) (p : Program) → IsVerdict false text (Accepted p) → ws ≡ words p → columns ≡ code_columns ws → Arrays text Code columns
are_words text ws columns p accepted are is = subst (Arrays text Code) (sym (is ∙ ap code_columns are)) (code_arrays p accepted)

-- ---- what the arrays of a pass tell of the source

pub states_only : (text : List ℕ) (a : List Column) → Arrays text States a → (length text ≤ most_source) × (a ≡ state_columns lexer text)
states_only text _ (state_arrays fits) = (fits, refl)

pub tokens_only : (text : List ℕ) (a : List Column) → Arrays text Tokens a → IsLexed text × (a ≡ token_columns text (map row_of (tokens text)))
tokens_only text _ (token_arrays is) = (is, refl)

pub pairs_only : (text : List ℕ) (a : List Column) → Arrays text Pairs a → (t : Tree Prog) × (entry : ℕ → ℕ → Option Entry) × IsParsed text t × AreTables grammar entry
    × (a ≡ pair_columns grammar entry (ended grammar (word text)))
pairs_only text _ (pair_arrays t entry is table) = (t, entry, is, table, refl)

pub parse_only : (text : List ℕ) (a : List Column) → Arrays text Parse a → (t : Tree Prog) × IsParsed text t × (a ≡ parse_columns grammar (map number_of (left_parse t)))
parse_only text _ (parse_arrays t is) = (t, is, refl)

pub rows_only : (text : List ℕ) (a : List Column) → Arrays text Rows a → (t : Tree Prog) × IsShaped text t × (a ≡ row_columns text (map row_of (tokens text)) (post (ast t)))
rows_only text _ (row_arrays t is) = (t, is, refl)

pub names_only : (text : List ℕ) (a : List Column) → Arrays text Names a → (t : Tree Prog) × IsScoped text t × (a ≡ name_columns (post (ast t)) (bindings (ast t)) (numbers_declared (ast t)))
names_only text _ (name_arrays t is) = (t, is, refl)

pub types_only : (text : List ℕ) (a : List Column) → Arrays text Types a → (t : Tree Prog) × IsChecked text t × (a ≡ type_columns (post (ast t)) (types (ast t)))
types_only text _ (type_arrays t is) = (t, is, refl)

pub frames_only : (text : List ℕ) (a : List Column) → Arrays text Frames a → (t : Tree Prog) × IsChecked text t × (find (λ f. nat_lt most_frame (frame f).bytes) (ast t) ≡ None)
    × (a ≡ frame_columns (function_names text (map row_of (tokens text)) (post (ast t))) (map (λ f. frame f) (ast t)))
frames_only text _ (frame_arrays t is none) = (t, is, none, refl)

pub places_only : (text : List ℕ) (a : List Column) → Arrays text Places a → (p : Program) × IsVerdict false text (Accepted p) × (a ≡ place_columns (post p) (depths p) (sizes (layout_of p) p) (places (layout_of p) p))
places_only text _ (place_arrays p is) = (p, is, refl)

pub code_only : (text : List ℕ) (a : List Column) → Arrays text Code a → (p : Program) × IsVerdict false text (Accepted p) × (a ≡ code_columns (words p))
code_only text _ (code_arrays p is) = (p, is, refl)

-- ---- what is shown of a pass

pub shown_of : {text : List ℕ} (pass : Pass) (table : List ℕ) → pass ≢ All → Shows text pass table → (columns : List Column) × Arrays text pass columns × (table ≡ table_text columns)
shown_of pass _ other (one_shown {columns = columns} are) = (columns, are, refl)
shown_of pass _ other (all_shown all are) = absurd (other refl)

pub all_only : {text : List ℕ} (table : List ℕ) → Shows text All table → (all : AllArrays) × AreAllArrays text all × (table ≡ all_tables all)
all_only table h = of_all All table refl h
  where
    of_all : {text : List ℕ} (pass : Pass) (table : List ℕ) → pass ≡ All → Shows text pass table → (all : AllArrays) × AreAllArrays text all × (table ≡ all_tables all)
    of_all pass _ is (all_shown all are) = (all, are, refl)
    of_all States _ is (one_shown are) = cc
    of_all Tokens _ is (one_shown are) = cc
    of_all Pairs _ is (one_shown are) = cc
    of_all Parse _ is (one_shown are) = cc
    of_all Rows _ is (one_shown are) = cc
    of_all Names _ is (one_shown are) = cc
    of_all Types _ is (one_shown are) = cc
    of_all Frames _ is (one_shown are) = cc
    of_all Places _ is (one_shown are) = cc
    of_all Code _ is (one_shown are) = cc
    of_all All _ is (one_shown are) = elim are [ ]

pub paged_of : (text a : List ℕ) → IsPage text a → (t : Tree Prog) × (all : AllArrays) × IsShaped text t × AreAllArrays text all
    × (a ≡ page text (map row_of (tokens text)) (post (ast t)) (named_arrays all))
paged_of text _ (page_shown t all is are) = (t, all, is, are, refl)

-- ---- and only one thing

module _ (text : List ℕ) (one_tree : OneTree) (one_entries : OneTable) (one_verdict : (v w : Verdict) → IsVerdict false text v → IsVerdict false text w → v ≡ w) where
  one_states : (a b : List Column) → Arrays text States a → Arrays text States b → a ≡ b
  one_states a b h k = (states_only text a h).1 ∙ sym (states_only text b k).1

  one_tokens : (a b : List Column) → Arrays text Tokens a → Arrays text Tokens b → a ≡ b
  one_tokens a b h k = (tokens_only text a h).1 ∙ sym (tokens_only text b k).1

  one_pairs : (a b : List Column) → Arrays text Pairs a → Arrays text Pairs b → a ≡ b
  one_pairs a b h k =
      let x = pairs_only text a h in
      let y = pairs_only text b k in
      let same : x.1 ≡ y.1 = λ i. λ (m n : ℕ). one_entries grammar x.1 y.1 x.3 y.3 m n i in
      x.4 ∙ ap (λ (entry : ℕ → ℕ → Option Entry). pair_columns grammar entry (ended grammar (word text))) same ∙ sym y.4

  one_parse : (a b : List Column) → Arrays text Parse a → Arrays text Parse b → a ≡ b
  one_parse a b h k =
      let x = parse_only text a h in
      let y = parse_only text b k in
      x.2 ∙ ap (λ (t : Tree Prog). parse_columns grammar (map number_of (left_parse t))) (one_tree text x.0 y.0 x.1.tree y.1.tree) ∙ sym y.2

  one_rows : (a b : List Column) → Arrays text Rows a → Arrays text Rows b → a ≡ b
  one_rows a b h k =
      let x = rows_only text a h in
      let y = rows_only text b k in
      x.2 ∙ ap (λ (t : Tree Prog). row_columns text (map row_of (tokens text)) (post (ast t))) (one_tree text x.0 y.0 x.1.parsed.tree y.1.parsed.tree) ∙ sym y.2

  one_names : (a b : List Column) → Arrays text Names a → Arrays text Names b → a ≡ b
  one_names a b h k =
      let x = names_only text a h in
      let y = names_only text b k in
      x.2 ∙ ap (λ (t : Tree Prog). name_columns (post (ast t)) (bindings (ast t)) (numbers_declared (ast t))) (one_tree text x.0 y.0 x.1.shaped.parsed.tree y.1.shaped.parsed.tree) ∙ sym y.2

  one_types : (a b : List Column) → Arrays text Types a → Arrays text Types b → a ≡ b
  one_types a b h k =
      let x = types_only text a h in
      let y = types_only text b k in
      x.2 ∙ ap (λ (t : Tree Prog). type_columns (post (ast t)) (types (ast t))) (one_tree text x.0 y.0 x.1.tree y.1.tree) ∙ sym y.2

  one_frames : (a b : List Column) → Arrays text Frames a → Arrays text Frames b → a ≡ b
  one_frames a b h k =
      let x = frames_only text a h in
      let y = frames_only text b k in
      x.3 ∙ ap (λ (t : Tree Prog). frame_columns (function_names text (map row_of (tokens text)) (post (ast t))) (map (λ f. frame f) (ast t))) (one_tree text x.0 y.0 x.1.tree y.1.tree) ∙ sym y.3

  placed : Verdict → List Column
  placed (Accepted p) = place_columns (post p) (depths p) (sizes (layout_of p) p) (places (layout_of p) p)
  placed v = []

  one_places : (a b : List Column) → Arrays text Places a → Arrays text Places b → a ≡ b
  unfolding placed
  one_places a b h k =
      let x = places_only text a h in
      let y = places_only text b k in
      x.2 ∙ ap placed (one_verdict (Accepted x.0) (Accepted y.0) x.1 y.1) ∙ sym y.2

  worded : Verdict → List Column
  worded (Accepted p) = code_columns (words p)
  worded v = []

  one_code : (a b : List Column) → Arrays text Code a → Arrays text Code b → a ≡ b
  unfolding worded
  one_code a b h k =
      let x = code_only text a h in
      let y = code_only text b k in
      x.2 ∙ ap worded (one_verdict (Accepted x.0) (Accepted y.0) x.1 y.1) ∙ sym y.2

  one_arrays : (pass : Pass) (a b : List Column) → Arrays text pass a → Arrays text pass b → a ≡ b
  one_arrays States a b h k = one_states a b h k
  one_arrays Tokens a b h k = one_tokens a b h k
  one_arrays Pairs a b h k = one_pairs a b h k
  one_arrays Parse a b h k = one_parse a b h k
  one_arrays Rows a b h k = one_rows a b h k
  one_arrays Names a b h k = one_names a b h k
  one_arrays Types a b h k = one_types a b h k
  one_arrays Frames a b h k = one_frames a b h k
  one_arrays Places a b h k = one_places a b h k
  one_arrays Code a b h k = one_code a b h k
  one_arrays All a b h k = elim h [ ]

  pub all_arrays : (x y : AllArrays) → AreAllArrays text x → AreAllArrays text y → x ≡ y
  all_arrays x y h k = λ i. record {
    of_states = one_states x.of_states y.of_states h.states_are k.states_are i;
    of_tokens = one_tokens x.of_tokens y.of_tokens h.tokens_are k.tokens_are i;
    of_pairs = one_pairs x.of_pairs y.of_pairs h.pairs_are k.pairs_are i;
    of_parse = one_parse x.of_parse y.of_parse h.parse_are k.parse_are i;
    of_rows = one_rows x.of_rows y.of_rows h.rows_are k.rows_are i;
    of_names = one_names x.of_names y.of_names h.names_are k.names_are i;
    of_types = one_types x.of_types y.of_types h.types_are k.types_are i;
    of_frames = one_frames x.of_frames y.of_frames h.frames_are k.frames_are i;
    of_places = one_places x.of_places y.of_places h.places_are k.places_are i;
    of_code = one_code x.of_code y.of_code h.code_are k.code_are i;
  }

  one_table : (pass : Pass) → pass ≢ All → (a b : List ℕ) → Shows text pass a → Shows text pass b → a ≡ b
  one_table pass other a b h k =
      let x = shown_of pass a other h in
      let y = shown_of pass b other k in
      x.2 ∙ ap table_text (one_arrays pass x.0 y.0 x.1 y.1) ∙ sym y.2

  pub one_shown_text : (pass : Pass) (a b : List ℕ) → Shows text pass a → Shows text pass b → a ≡ b
  one_shown_text All a b h k =
      let x = all_only a h in
      let y = all_only b k in
      x.2 ∙ ap all_tables (all_arrays x.0 y.0 x.1 y.1) ∙ sym y.2
  one_shown_text States a b h k = one_table States (λ e. cc) a b h k
  one_shown_text Tokens a b h k = one_table Tokens (λ e. cc) a b h k
  one_shown_text Pairs a b h k = one_table Pairs (λ e. cc) a b h k
  one_shown_text Parse a b h k = one_table Parse (λ e. cc) a b h k
  one_shown_text Rows a b h k = one_table Rows (λ e. cc) a b h k
  one_shown_text Names a b h k = one_table Names (λ e. cc) a b h k
  one_shown_text Types a b h k = one_table Types (λ e. cc) a b h k
  one_shown_text Frames a b h k = one_table Frames (λ e. cc) a b h k
  one_shown_text Places a b h k = one_table Places (λ e. cc) a b h k
  one_shown_text Code a b h k = one_table Code (λ e. cc) a b h k

  pub one_page : (a b : List ℕ) → IsPage text a → IsPage text b → a ≡ b
  one_page a b h k =
      let x = paged_of text a h in
      let y = paged_of text b k in
      let same : x.0 ≡ y.0 = one_tree text x.0 y.0 x.2.parsed.tree y.2.parsed.tree in
      let all : x.1 ≡ y.1 = all_arrays x.1 y.1 x.3 y.3 in
      x.4 ∙ (λ i. page text (map row_of (tokens text)) (post (ast (same i))) (named_arrays (all i))) ∙ sym y.4

-- ---- what a refusal tells

module _ (text : List ℕ) where
  stops_more : {A B : Type 0} (r : Refusal) → (A → B) → Stops A text r → Stops B text r
  stops_more (Diagnostic code at) f h = (h.0, f h.1)
  stops_more (Limit code at bytes) f h = (h.0, f h.1)
  stops_more NoMemory f h = tt

  refused_here : (r : Refusal) → IsRefused text r → IsRefusedBy false text r
  refused_here (Diagnostic code at) h = h false
  refused_here (Limit code at bytes) h = h.1 false
  refused_here NoMemory h = tt

  -- what a `?` hands on, and what a call gives back
  pub passed_on : {T A B : Type 0} (r : Result T Refusal) (e : Refusal) → IsErrAnd r (λ f. f ≡ e) → (A → B) → Stops A text e → IfErr r (Stops B text)
  passed_on r e is f h = handed_on (Stops _ text) r e is (stops_more e f h)

  pub stopped_by : {A B : Type 0} (r : Refusal) → IsRefusedBy false text r → TellsThat A r → (A → B) → Stops B text r
  stopped_by (Diagnostic code at) h a f = (h, f a)
  stopped_by (Limit code at bytes) h a f = (h, f a)
  stopped_by NoMemory h a f = tt

  pub stopped : {A B : Type 0} (r : Refusal) → IsRefused text r → TellsThat A r → (A → B) → Stops B text r
  stopped r h a f = stopped_by r (refused_here r h) a f

  pub stopped_call : {T A B : Type 0} (r : Result T Refusal) → IfErr r (IsRefused text) → IfErr r (TellsThat A) → (A → B) → IfErr r (Stops B text)
  stopped_call (Ok x) h a f = tt
  stopped_call (Err e) h a f = stopped e h a f

  pub stopped_call_by : {T A B : Type 0} (r : Result T Refusal) → IfErr r (IsRefusedBy false text) → IfErr r (TellsThat A) → (A → B) → IfErr r (Stops B text)
  stopped_call_by (Ok x) h a f = tt
  stopped_call_by (Err e) h a f = stopped_by e h a f

  pub told_size : {A : Type 0} (r : Refusal) → IsRefused text r → most_source < length text → (¬ (length text ≤ most_source) → A) → Stops A text r
  told_size (Diagnostic code at) h large f = (h false, f (λ fits. absurd (omega arith)))
  told_size (Limit code at bytes) h large f = (h.1 false, f (λ fits. absurd (omega arith)))
  told_size NoMemory h large f = tt

  -- ---- what the compiler says of a source without a fault of the phases up to types

  abbrev IsLast : Verdict → Type 0
  IsLast (Diagnosed code place) = ⊥
  IsLast (Limited code place bytes) = (code ≡ 602) ⊎ (code ≡ 603)
  IsLast (Accepted p) = Unit {0}

  module _ (one_verdict : (v w : Verdict) → IsVerdict false text v → IsVerdict false text w → v ≡ w)
      (frame_limit : (t : Tree Prog) (f : Function) → IsChecked text t → find (λ g. nat_lt most_frame (frame g).bytes) (ast t) ≡ Some f
      → IsVerdict false text (Limited 602 (place_of text (tokens text) f.at) (frame f).bytes))
      (code_limit : (t : Tree Prog) → IsChecked text t → find (λ g. nat_lt most_frame (frame g).bytes) (ast t) ≡ None
      → most_code < 4 * length (instructions (ast t)) → IsVerdict false text (Limited 603 (length text) (4 * length (instructions (ast t)))))
      (accepted : (t : Tree Prog) → IsChecked text t → find (λ g. nat_lt most_frame (frame g).bytes) (ast t) ≡ None
      → 4 * length (instructions (ast t)) ≤ most_code → IsVerdict false text (Accepted (ast t))) where
    last_verdict : (t : Tree Prog) → IsChecked text t → (v : Verdict) × IsVerdict false text v × IsLast v
    last_verdict t is = go (find (λ g. nat_lt most_frame (frame g).bytes) (ast t)) refl
      where
        by_size : find (λ g. nat_lt most_frame (frame g).bytes) (ast t) ≡ None → (most_code < 4 * length (instructions (ast t))) ⊎ (4 * length (instructions (ast t)) ≤ most_code)
            → (v : Verdict) × IsVerdict false text v × IsLast v
        by_size none (inl large) = (Limited 603 (length text) (4 * length (instructions (ast t))), code_limit t is none large, inr refl)
        by_size none (inr few) = (Accepted (ast t), accepted t is none few, tt)

        go : (o : Option Function) → find (λ g. nat_lt most_frame (frame g).bytes) (ast t) ≡ o → (v : Verdict) × IsVerdict false text v × IsLast v
        go (Some f) e = (Limited 602 (place_of text (tokens text) f.at) (frame f).bytes, frame_limit t f is e, inl refl)
        go None e = by_size e (cases_lt most_code (4 * length (instructions (ast t))))

    -- a source that the front refuses isn't one
    pub unchecked : (r : Refusal) → IsRefused text r → Stops ((t : Tree Prog) → ¬ IsChecked text t) text r
    unchecked (Diagnostic code at) h = (h false, λ t is. let l = last_verdict t is in subst IsLast (one_verdict l.0 (Diagnosed code at) l.1 (h false)) l.2)
    unchecked (Limit code at bytes) h = (
      h.1 false,
      λ t is.
          let l = last_verdict t is in
          let last : (code ≡ 602) ⊎ (code ≡ 603) = subst IsLast (one_verdict l.0 (Limited code at bytes) l.1 (h.1 false)) l.2 in
          other last,
    )
      where
        other : (code ≡ 602) ⊎ (code ≡ 603) → ⊥
        other (inl e) = let c = h.0 in absurd (omega arith)
        other (inr e) = let c = h.0 in absurd (omega arith)
    unchecked NoMemory h = tt

  -- a source that is refused isn't accepted
  pub unaccepted : (r : Refusal) → ((v w : Verdict) → IsVerdict false text v → IsVerdict false text w → v ≡ w) → IsRefusedBy false text r
      → Stops ((p : Program) → ¬ IsVerdict false text (Accepted p)) text r
  unaccepted (Diagnostic code at) one h = (h, λ p is. let both : Diagnosed code at ≡ Accepted p = one (Diagnosed code at) (Accepted p) h is in cc)
  unaccepted (Limit code at bytes) one h = (h, λ p is. let both : Limited code at bytes ≡ Accepted p = one (Limited code at bytes) (Accepted p) h is in cc)
  unaccepted NoMemory one h = tt
