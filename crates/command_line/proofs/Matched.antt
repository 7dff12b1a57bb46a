-- What a parse met, by the words alone.
use Rattle.std.proofs.Common.{◌≡◌, ◌∙◌, ℕ, ◌⊎◌, Bool, cond, true, false, inl, inr, refl, sym, ap, ap₂, subst, arith, List, [], ◌∷◌, codes, Option, Some, None, if◌then◌else◌, unwrap_or, Result, Ok, Err}
use Rattle.std.specs.Prelude.{IfErr, IsErrAnd, option_and_then, option_map, is_some}
use Rattle.std.proofs.lemmas.Bool.{ne_eqb}
use Rattle.clap.specs.Kinds.{IsAmong, Kinds}
use Rattle.clap.specs.Simple.{App, HasMatchesOf, is_simple, subcommand_of, subcommand_rows_of}
use Rattle.clap.specs.Faults.{fault_of, is_simple_and_free}
use Rattle.clap.specs.Walk.{Text, Row, first_of, is_empty}
use Rattle.clap.specs.declared.parser.matches.ArgMatches.{ArgMatches}
use Rattle.clap.specs.declared.error.kind.ErrorKind.{ErrorKind}
use Rattle.command_line.specs.Words.{Asked, IsNoCode, IsNoView, app, asked, asked_by, flag_at, known, number_at, pass_named, shared_out, unknown_code, view_at, view_of}
use Rattle.command_line.specs.Ranges.{HasNumbers, of_build, of_run, of_show, of_batch, of_emu, of_dump, of_asm, of_table, of_drill, of_explain}
use Rattle.command_line.specs.declared.command.Command.{Command}
use Rattle.command_line.specs.declared.command.Command.TheVariants.{Build, Run, Show, Page, Batch, Emu, Dump, Asm, Table, Drill, Explain}
use Rattle.command_line.specs.declared.command.Pass.{Pass}
use Rattle.diagnostic_texts.specs.Explained.{Explained, explanation_of}
use Rattle.command_line.proofs.Taken.{taken}

pub app_is_free : is_simple_and_free app ≡ true
app_is_free = refl

app_is_simple : is_simple app ≡ true
app_is_simple = refl

-- words with a fault ask for nothing
pub asked_none : (words : List Text) (k : ErrorKind) → IsAmong k (fault_of app words) → asked words ≡ None
asked_none words k h = go (fault_of app words) h
  where
    go : (f : Kinds) → IsAmong k f → cond (is_empty f) (option_and_then (λ s. option_and_then known (asked_by s.0 s.1)) (subcommand_of app words)) None ≡ None
    go [] h = absurd h
    go (x ∷ xs) h = ap (λ b. cond b (option_and_then (λ s. option_and_then known (asked_by s.0 s.1)) (subcommand_of app words)) None) (ne_eqb _ _ (λ e. absurd (omega arith)))

asked_some : (words : List Text) (s : Text × List Row) → fault_of app words ≡ [] → subcommand_of app words ≡ Some s → asked words ≡ option_and_then known (asked_by s.0 s.1)
asked_some words s none is = rw (none, is) refl

-- the subcommand that was met
pub record Met (words : List Text) (m : ArgMatches) : Type 0 where
  pub name : Text
  pub rows : List Row
  pub is_met : subcommand_rows_of m ≡ Some (name, rows)
  pub numbers : HasNumbers rows name
  pub is_asked : asked words ≡ option_and_then known (asked_by name rows)

pub met : (a : App) (ws words : List Text) (m : ArgMatches) → a ≡ app → ws ≡ words → fault_of a ws ≡ [] → HasMatchesOf a ws m → Met words m
met a ws words m a_is ws_are none has =
    let no_fault : fault_of app words ≡ [] = sym (ap₂ fault_of a_is ws_are) ∙ none in
    let got = taken words no_fault in
    record {
      name = got.0.0;
      rows = got.0.1;
      is_met = (has (ap is_simple a_is ∙ app_is_simple)).1 ∙ ap₂ subcommand_of a_is ws_are ∙ got.1;
      numbers = got.2;
      is_asked = asked_some words got.0 no_fault got.1;
    }

pub mapped_twice : {X Y Z : Type 0} (f : Y → Z) (g : X → Y) (o : Option X) → option_map (λ x. f (g x)) o ≡ option_map f (option_map g o)
mapped_twice f g None = refl
mapped_twice f g (Some x) = refl

-- what the getter of a subcommand gives
pub record Got (words : List Text) (name : Text) (rows : List Row) : Type 0 where
  pub numbers : HasNumbers rows name
  pub is_asked : asked words ≡ option_and_then known (asked_by name rows)

pub got : (words : List Text) (m : ArgMatches) (name : Text) (rows : List Row) → Met words m → option_map (λ s. s.0) (subcommand_rows_of m) ≡ Some name
    → option_map (λ s. s.1) (subcommand_rows_of m) ≡ Some rows → Got words name rows
got words m name rows x name_is rows_is =
    let same_name : x.name ≡ name = ap (λ o. unwrap_or o name) (sym (ap (option_map (λ s. s.0)) x.is_met) ∙ name_is) in
    let same_rows : x.rows ≡ rows = ap (λ o. unwrap_or o rows) (sym (ap (option_map (λ s. s.1)) x.is_met) ∙ rows_is) in
    record {
      numbers = subst (λ n. HasNumbers rows n) same_name (subst (λ rs. HasNumbers rs x.name) same_rows x.numbers);
      is_asked = x.is_asked ∙ ap₂ (λ n rs. option_and_then known (asked_by n rs)) same_name same_rows;
    }

-- what a `?` hands on
pub handed_on : {A E : Type 0} (P : E → Type 0) (r : Result A E) (f : E) → IsErrAnd r (λ e. e ≡ f) → P f → IfErr r P
handed_on P (Ok x) f is p = absurd is
handed_on P (Err e) f is p = subst P (sym is) p

-- there is no view, or one that is known
view_is : (is_page : Bool) (word : Option Text) → (view_of is_page word ≡ None) ⊎ ((view : Command) × (view_of is_page word ≡ Some view) × (unknown_code view ≡ None))
view_is true None = inr (Page, refl, refl)
view_is true (Some word) = inl refl
view_is false word = go (option_and_then pass_named word)
  where
    go : (o : Option Pass) → (option_map (λ (p : Pass). Show p) o ≡ None) ⊎ ((view : Command) × (option_map (λ (p : Pass). Show p) o ≡ Some view) × (unknown_code view ≡ None))
    go None = inl refl
    go (Some p) = inr (Show p, refl, refl)

-- what words ask for that name a subcommand
module _ (words : List Text) (rows : List Row) where
  abbrev Asks : Type 0
  Asks = ((a : Asked) × (asked words ≡ Some a)) ⊎ (IsNoCode words ⊎ IsNoView words)

  abbrev explained_with : Option Explained → Option Asked
  explained_with o =
      if is_some (if is_some o then None else Some (number_at (codes "code") rows)) then None else Some (record { command = Explain (number_at (codes "code") rows); workers = 1; chunk = 1 })

  asks_to_explain : subcommand_of app words ≡ Some (codes "explain", rows) → asked words ≡ option_and_then known (asked_by (codes "explain") rows) → Asks
  asks_to_explain explains h = go (explanation_of (number_at (codes "code") rows)) refl
    where
      go : (o : Option Explained) → explanation_of (number_at (codes "code") rows) ≡ o → Asks
      go None e = inr (inl (record { options = rows; explains = explains; is_none = e }))
      go (Some x) e = inl (record { command = Explain (number_at (codes "code") rows); workers = 1; chunk = 1 }, h ∙ ap explained_with e)

  abbrev shown_as : Option Command → Option Asked
  shown_as o = option_and_then known (option_map (λ (view : Command). shared_out view rows) o)

  asks_to_show : subcommand_of app words ≡ Some (codes "show", rows) → asked words ≡ option_and_then known (asked_by (codes "show") rows) → Asks
  asks_to_show shows h = go (view_is (flag_at (codes "html") rows) (first_of (codes "pass") rows))
    where
      go : (view_at rows ≡ None) ⊎ ((view : Command) × (view_at rows ≡ Some view) × (unknown_code view ≡ None)) → Asks
      go (inl none) = inr (inr (record { options = rows; shows = shows; is_none = none }))
      go (inr (view, is, known_view)) = inl (shared_out view rows, h ∙ ap shown_as is ∙ ap (λ (o : Option ℕ). if is_some o then None else Some (shared_out view rows)) known_view)

  asks : (name : Text) → HasNumbers rows name → subcommand_of app words ≡ Some (name, rows) → asked words ≡ option_and_then known (asked_by name rows) → Asks
  asks _ (of_build plan) is h = inl (shared_out (Build (flag_at (codes "fold") rows)) rows, h)
  asks _ (of_run plan steps) is h = inl (shared_out (Run (number_at (codes "steps") rows) (flag_at (codes "fold") rows)) rows, h)
  asks _ (of_show plan) is h = asks_to_show is h
  asks _ (of_batch plan) is h = inl (shared_out Batch rows, h)
  asks _ (of_emu steps) is h = inl (record { command = Emu (number_at (codes "steps") rows); workers = 1; chunk = 1 }, h)
  asks _ of_dump is h = inl (record { command = Dump; workers = 1; chunk = 1 }, h)
  asks _ of_asm is h = inl (record { command = Asm; workers = 1; chunk = 1 }, h)
  asks _ of_table is h = inl (record { command = Table (first_of (codes "word") rows) (flag_at (codes "entries") rows); workers = 1; chunk = 1 }, h)
  asks _ (of_drill text plan) is h = inl (shared_out (Drill (number_at (codes "seed") rows) (number_at (codes "functions") rows)) rows, h)
  asks _ (of_explain code) is h = asks_to_explain is h

pub taken_asked : (words : List Text) → fault_of app words ≡ [] → ((a : Asked) × (asked words ≡ Some a)) ⊎ (IsNoCode words ⊎ IsNoView words)
taken_asked words none =
    let one = taken words none in
    asks words one.0.1 one.0.0 one.2 one.1 (asked_some words one.0 none one.1)

-- ---- words that ask for nothing

abbrev asked_of : Option (Text × List Row) → Option Asked
asked_of o = option_and_then (λ (s : Text × List Row). option_and_then known (asked_by s.0 s.1)) o

nothing_asked : (words : List Text) (name : Text) (rows : List Row) → subcommand_of app words ≡ Some (name, rows) → option_and_then known (asked_by name rows) ≡ None → asked words ≡ None
nothing_asked words name rows is none = go (is_empty (fault_of app words))
  where
    go : (b : Bool) → cond b (asked_of (subcommand_of app words)) None ≡ None
    go true = ap asked_of is ∙ none
    go false = refl

pub no_code : (words : List Text) → IsNoCode words → asked words ≡ None
no_code words n = nothing_asked words (codes "explain") n.options n.explains (ap (explained_with words n.options) n.is_none)

pub no_view : (words : List Text) → IsNoView words → asked words ≡ None
no_view words n = nothing_asked words (codes "show") n.options n.shows (ap (shown_as words n.options) n.is_none)

-- ---- codes that no diagnostic has

none_of : (code : ℕ) (o : Option Explained) → is_some (cond {A = Option ℕ} (is_some o) None (Some code)) ≡ true → o ≡ None
none_of code None h = refl
none_of code (Some e) h = cc

refused : (b : Bool) (a : Asked) → cond {A = Option Asked} b None (Some a) ≡ None → b ≡ true
refused true a h = refl
refused false a h = cc

unknown_to : (c : Command) → is_some (unknown_code c) ≡ true → (code : ℕ) × (c ≡ Explain code) × (explanation_of code ≡ None)
unknown_to (Build fold) h = cc
unknown_to (Run steps fold) h = cc
unknown_to (Show pass) h = cc
unknown_to Page h = cc
unknown_to Batch h = cc
unknown_to (Emu steps) h = cc
unknown_to Dump h = cc
unknown_to Asm h = cc
unknown_to (Table word entries) h = cc
unknown_to (Drill seed functions) h = cc
unknown_to (Explain code) h = (code, refl, none_of code (explanation_of code) h)

-- what isn't asked for is to explain a code that no diagnostic has
pub unknown : (a : Asked) → known a ≡ None → (code : ℕ) × (a.command ≡ Explain code) × (explanation_of code ≡ None)
unknown a h = unknown_to a.command (refused (is_some (unknown_code a.command)) a h)

asked_is : {X : Type 0} (f : X → Option Asked) (b : Bool) (o : Option X) (a : Asked) → cond b (option_and_then (λ s. option_and_then known (f s)) o) None ≡ Some a
    → (s : Asked) × (known s ≡ Some a)
asked_is f true None a h = cc
asked_is f true (Some x) a h = go (f x) h
  where
    go : (q : Option Asked) → option_and_then known q ≡ Some a → (s : Asked) × (known s ≡ Some a)
    go None e = cc
    go (Some s) e = (s, e)
asked_is f false o a h = cc

kept : (s a : Asked) → known s ≡ Some a → is_some (unknown_code a.command) ≡ false
kept s a h = go (is_some (unknown_code s.command)) refl h
  where
    go : (b : Bool) → is_some (unknown_code s.command) ≡ b → cond {A = Option Asked} b None (Some s) ≡ Some a → is_some (unknown_code a.command) ≡ false
    go true e h = cc
    go false e h =
        let same : s ≡ a = ap (λ o. unwrap_or o s) h in
        ap (λ (x : Asked). is_some (unknown_code x.command)) (sym same) ∙ e

explained : (code : ℕ) (o : Option Explained) → is_some (cond {A = Option ℕ} (is_some o) None (Some code)) ≡ false → is_some o ≡ true
explained code None h = cc
explained code (Some e) h = refl

-- what is to be explained has an explanation
pub asked_code : (words : List Text) (a : Asked) (code : ℕ) → asked words ≡ Some a → a.command ≡ Explain code → is_some (explanation_of code) ≡ true
asked_code words a code h e =
    let one = asked_is (λ (s : Text × List Row). asked_by s.0 s.1) (is_empty (fault_of app words)) (subcommand_of app words) a h in
    explained code (explanation_of code) (ap (λ c. is_some (unknown_code c)) (sym e) ∙ kept one.0 a one.1)
