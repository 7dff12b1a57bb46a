-- Words in which `clap` finds no fault name a subcommand of the program, and the numbers of its options lie in their ranges.
use Rattle.std.proofs.Common.{◌≡◌, ◌∙◌, ◌&&◌, ◌||◌, ℕ, Bool, cond, true, false, not, refl, sym, ap, subst, codes, List, [], ◌∷◌, Option, Some, None, inl, inr, unwrap_or}
use Rattle.std.specs.Prelude.{find, fold, is_some, option_map, bytes_eq, if◌then◌else◌}
use Rattle.std.specs.Option.{option_map_or}
use Rattle.std.specs.List.{slice_index_or}
use Rattle.std.proofs.lemmas.Slice.Eq.{bytes_eq-Decides}
use Rattle.clap.specs.Lexer.{long_of, short_of}
use Rattle.clap.specs.ValueTests.{accepts, is_unsigned_in}
use Rattle.clap.specs.declared.builder.value_parser.ValueParser.TheVariants as parsers
use Rattle.clap.specs.declared.error.kind.ErrorKind.TheVariants as kind
use Rattle.clap.specs.Kinds.{or_else}
use Rattle.clap.specs.Simple.{Shape, argument_words, built, entered, filled, with_index, label_of, names_of, rows_at, subcommand_of}
use Rattle.clap.specs.Walk.{Text, Rule, Row, Held, Names, Outcome, done, waits, plain, refused, Step, next, trailing, subcommand, value, Waiting, idle, option, positional, Walk, answers_to, arg_by_index, plain_word, after_flag, long_or_other, short_or_plain, subcommand_met, subcommand_or_other, word_met, to_positional, after_step, walked_from, walked, walk, walk_from, settled, finished, nothing_held, rows_after}
use Rattle.clap.specs.Faults.{walk_fault, turn_fault, word_fault, other_fault, step_fault, settle_fault, defaults_fault, check_fault, level_fault, entered_fault, built_fault, fault_of}
use Rattle.clap.proofs.ValueTestLemmas.{accepts-Accepts}
use Rattle.command_line.specs.Words.{app, value_option, with_default, required, workers_option, chunk_option, steps_option, fold_option, seed_option, functions_option, pass_option, html_option, code_value}
use Rattle.command_line.specs.Ranges.{HasNumber, HasPlan, HasSteps, HasCode, HasText, HasNumbers, of_build, of_run, of_show, of_batch, of_emu, of_dump, of_asm, of_table, of_drill, of_explain}
use Rattle.command_line.proofs.Rows.{both_none, AreOptions, IsOption}
use Rattle.command_line.proofs.Levels.{IsThere, here, wanted, later, level_value}

-- ---- the numbers of a subcommand

-- the values of the options
abbrev tested : Text → Text → Bool
tested id text =
    if bytes_eq id (codes "workers") then is_unsigned_in 1 64 text
    else if bytes_eq id (codes "chunk") then is_unsigned_in 1 65536 text
    else if bytes_eq id (codes "seed") then is_unsigned_in 0 4294967295 text
    else if bytes_eq id (codes "functions") then is_unsigned_in 1 4096 text
    else if bytes_eq id (codes "code") then is_unsigned_in 100 999 text
    else if bytes_eq id (codes "pass") then true
    else if bytes_eq id (codes "fold") then accepts false parsers.Bool text
    else if bytes_eq id (codes "html") then accepts false parsers.Bool text
    else is_unsigned_in 0 1000000000 text

number_of : (s : Shape) (words : List Text) (id : Text) (low high : ℕ) → AreOptions tested s.rules → IsThere id s.rules
    → ((t : Text) → tested id t ≡ is_unsigned_in low high t) → level_fault s [] nothing_held words false [] ≡ []
    → HasNumber id low high (rows_after s.rules [] words)
number_of s words id low high options there same f =
    let got = level_value tested s words id options there f in
    record { text = got.0; is_first = got.1; in_range = accepts-Accepts false (parsers.Unsigned low high) got.0 (sym (same got.0) ∙ got.2) }

plan_of_words : (s : Shape) (words : List Text) → AreOptions tested s.rules → IsThere (codes "workers") s.rules → IsThere (codes "chunk") s.rules
    → level_fault s [] nothing_held words false [] ≡ [] → HasPlan (rows_after s.rules [] words)
plan_of_words s words options workers chunk f =
    (number_of s words (codes "workers") 1 64 options workers (λ t. refl) f, number_of s words (codes "chunk") 1 65536 options chunk (λ t. refl) f)

steps_of_words : (s : Shape) (words : List Text) → AreOptions tested s.rules → IsThere (codes "steps") s.rules
    → level_fault s [] nothing_held words false [] ≡ [] → HasSteps (rows_after s.rules [] words)
steps_of_words s words options steps f = number_of s words (codes "steps") 0 1000000000 options steps (λ t. refl) f

text_of_words : (s : Shape) (words : List Text) → AreOptions tested s.rules → IsThere (codes "seed") s.rules → IsThere (codes "functions") s.rules
    → level_fault s [] nothing_held words false [] ≡ [] → HasText (rows_after s.rules [] words)
text_of_words s words options seed functions f =
    (number_of s words (codes "seed") 0 4294967295 options seed (λ t. refl) f, number_of s words (codes "functions") 1 4096 options functions (λ t. refl) f)

code_of_words : (s : Shape) (words : List Text) → AreOptions tested s.rules → IsThere (codes "code") s.rules
    → level_fault s [] nothing_held words false [] ≡ [] → HasCode (rows_after s.rules [] words)
code_of_words s words options code f = number_of s words (codes "code") 100 999 options code (λ t. refl) f

-- ---- no word before the subcommand asks for help

abbrev IsNoHelp : Option (Text × List Text) → Type 0
IsNoHelp None = Unit {0}
IsNoHelp (Some p) = bytes_eq p.0 (codes "help") ≡ false

-- the step meets no subcommand
abbrev IsPlainStep : Step → Type 0
IsPlainStep (next waiting) = Unit {0}
IsPlainStep (trailing position) = Unit {0}
IsPlainStep (subcommand name) = ⊥
IsPlainStep value = Unit {0}

plain_step : (c : List Rule) (waiting : Waiting) (word : Text) (h : Held) → IsPlainStep (plain_word c waiting word h).1
plain_step c idle word h = tt
plain_step c positional word h = tt
plain_step c (option id) word h = tt

after_step_plain : (c : List Rule) (waiting : Waiting) (word : Text) (h : Held) (o : Outcome) → IsPlainStep (after_flag c waiting word h o).1
after_step_plain c waiting word h done = tt
after_step_plain c waiting word h (waits id) = tt
after_step_plain c waiting word h plain = plain_step c waiting word h
after_step_plain c waiting word h refused = plain_step c waiting word h

other_plain : (c : List Rule) (waiting : Waiting) (word : Text) (h : Held) (o : Option (Text × Option Text)) → IsPlainStep (long_or_other c waiting word o h).1
other_plain c waiting word h (Some p) = after_step_plain c waiting word _ _
other_plain c waiting word h None = go (short_of word)
  where
    go : (o : Option Text) → IsPlainStep (short_or_plain c waiting word o h).1
    go None = plain_step c waiting word h
    go (Some flags) = after_step_plain c waiting word _ _

module _ (s : Shape) (names : Names) (has_help : s.disable_help_subcommand ≡ false) where
  plain_stops : (word : Text) (w : Walk) (h : Held) (t : Step) → w.stopped ≡ None → IsPlainStep t → IsNoHelp (after_step s.rules word w h t).stopped
  plain_stops word w h (next waiting) e p = rw e tt
  plain_stops word w h (trailing position) e p = rw e tt
  plain_stops word w h (subcommand name) e p = absurd p
  plain_stops word w h value e p = go (arg_by_index s.rules w.position)
    where
      go : (m : Option Rule) → IsNoHelp (to_positional s.rules m word w h).stopped
      go None = rw e tt
      go (Some a) = tt

  no_help : (b : Bool) → cond (b && not s.disable_help_subcommand) (kind.DisplayHelp ∷ kind.InvalidSubcommand ∷ []) [] ≡ [] → b ≡ false
  no_help true f =
      let asks = rw has_help at f in
      cc
  no_help false f = refl

  word_stops : (is_trailing : Bool) (word : Text) (w : Walk) → w.stopped ≡ None → word_fault s names is_trailing w.waiting word w.held ≡ []
      → IsNoHelp (after_step s.rules word w (word_met s.rules names is_trailing w.waiting w.position word w.held).0 (word_met s.rules names is_trailing w.waiting w.position word w.held).1).stopped
  word_stops true word w e f = plain_stops word w w.held value e tt
  word_stops false word w e f = go (subcommand_met names w.waiting word) f
    where
      other : (b : Bool) → IsNoHelp (after_step s.rules word w (cond b (w.held, trailing w.position) (long_or_other s.rules w.waiting word (long_of word) w.held)).0
          (cond b (w.held, trailing w.position) (long_or_other s.rules w.waiting word (long_of word) w.held)).1).stopped
      other true = plain_stops word w w.held (trailing w.position) e tt
      other false = plain_stops word w _ _ e (other_plain s.rules w.waiting word w.held (long_of word))

      go : (o : Option Text) → other_fault s o word w.held ≡ []
          → IsNoHelp (after_step s.rules word w (subcommand_or_other s.rules o w.waiting w.position word w.held).0 (subcommand_or_other s.rules o w.waiting w.position word w.held).1).stopped
      go (Some name) f = no_help (bytes_eq name (codes "help")) f
      go None f = other (bytes_eq word (45 ∷ 45 ∷ []))

  turn_stops : (w : Walk) (word : Text) → turn_fault s names w word ≡ [] → IsNoHelp w.stopped → IsNoHelp (walked s.rules names w word).stopped
  unfolding walked
  turn_stops w word f before = go w.stopped refl f before
    where
      go : (o : Option (Text × List Text)) → w.stopped ≡ o
          → cond (is_some o) [] (or_else (word_fault s names w.is_trailing w.waiting word w.held)
          (step_fault s w.position (word_met s.rules names w.is_trailing w.waiting w.position word w.held).0 (word_met s.rules names w.is_trailing w.waiting w.position word w.held).1)) ≡ []
          → IsNoHelp o → IsNoHelp (walked_from s.rules names o w word).stopped
      go (Some p) e f before = before
      go None e f before =
          let met = word_met s.rules names w.is_trailing w.waiting w.position word w.held in
          let parts = both_none (word_fault s names w.is_trailing w.waiting word w.held) (step_fault s w.position met.0 met.1) f in
          word_stops w.is_trailing word w e parts.0

  walk_stops : (words : List Text) (w : Walk) → walk_fault s names w words ≡ [] → IsNoHelp w.stopped → IsNoHelp (fold (walked s.rules names) w words).stopped
  unfolding walk_fault
  walk_stops [] w f before = before
  walk_stops (word ∷ rest) w f before =
      let parts = both_none (turn_fault s names w word) (walk_fault s names (walked s.rules names w word) rest) f in
      walk_stops rest (walked s.rules names w word) parts.1 (turn_stops w word parts.0 before)

-- ---- the subcommand

abbrev AllShapes : (Shape → Type 0) → List Shape → Type 0
AllShapes P [] = Unit {0}
AllShapes P (s ∷ rest) = P s × AllShapes P rest

found_shape : (P : Shape → Type 0) (q : Shape → Bool) (subs : List Shape) (s : Shape) → AllShapes P subs → find q subs ≡ Some s → P s × (q s ≡ true)
found_shape P q [] s all h = cc
found_shape P q (x ∷ rest) s all h = go (q x) refl h (found_shape P q rest s all.1)
  where
    go : (b : Bool) → q x ≡ b → cond b (Some x) (find q rest) ≡ Some s → (find q rest ≡ Some s → P s × (q s ≡ true)) → P s × (q s ≡ true)
    go true e h rec =
        let same : x ≡ s = ap (λ o. unwrap_or o x) h in
        (subst P same all.0, ap q (sym same) ∙ e)
    go false e h rec = rec h

-- what is known of a subcommand that the word names
abbrev Takes : Text → Shape → Type 0
Takes word s = (words : List Text) → answers_to word (label_of s) ≡ true → level_fault s [] nothing_held words false [] ≡ [] → HasNumbers (rows_after s.rules [] words) s.name

-- the subcommands as they are parsed
abbrev built_sub : ℕ → Shape
built_sub i = slice_index_or (built app).subs i app.top

help_asked : (word : Text) → bytes_eq word (codes "help") ≡ false → (bytes_eq (codes "help") word || false) ≡ true → ⊥
help_asked word other e = go (bytes_eq (codes "help") word) refl e
  where
    go : (b : Bool) → bytes_eq (codes "help") word ≡ b → (b || false) ≡ true → ⊥
    go true h e =
        let same = (bytes_eq-Decides (codes "help") word).0 h in
        let is : bytes_eq word (codes "help") ≡ true = (bytes_eq-Decides word (codes "help")).1 (sym same) in
        cc
    go false h e = cc

is_number : (name default : Text) (low high : ℕ) → ((t : Text) → is_unsigned_in low high t ≡ tested name t)
    → IsOption tested (with_index 1 (filled (with_default (value_option name (parsers.Unsigned low high)) default)))
is_number name default low high same = inl (record { sets = refl; one = refl; tested = same })

is_required : (name : Text) (low high : ℕ) → ((t : Text) → is_unsigned_in low high t ≡ tested name t)
    → IsOption tested (with_index 1 (filled (required (value_option name (parsers.Unsigned low high)))))
is_required name low high same = inl (record { sets = refl; one = refl; tested = same })

workers_is : IsOption tested (with_index 1 (filled workers_option))
workers_is = is_number (codes "workers") (codes "4") 1 64 (λ t. refl)

chunk_is : IsOption tested (with_index 1 (filled chunk_option))
chunk_is = is_number (codes "chunk") (codes "1024") 1 65536 (λ t. refl)

steps_is : IsOption tested (with_index 1 (filled steps_option))
steps_is = is_number (codes "steps") (codes "1000000") 0 1000000000 (λ t. refl)

fold_is : IsOption tested (with_index 1 (filled fold_option))
fold_is = inr (inl (record { sets = refl; none = refl; text = codes "true"; used_for = refl; tested = λ t. refl }))

seed_is : IsOption tested (with_index 1 (filled seed_option))
seed_is = is_required (codes "seed") 0 4294967295 (λ t. refl)

functions_is : IsOption tested (with_index 1 (filled functions_option))
functions_is = is_required (codes "functions") 1 4096 (λ t. refl)

pass_is : IsOption tested (with_index 1 (filled pass_option))
pass_is = inl (record { sets = refl; one = refl; tested = λ t. refl })

html_is : IsOption tested (with_index 1 (filled html_option))
html_is = inr (inl (record { sets = refl; none = refl; text = codes "true"; used_for = refl; tested = λ t. refl }))

code_is : IsOption tested (with_index 1 (filled code_value))
code_is = inl (record { sets = refl; one = refl; tested = λ t. refl })

plan_options : AreOptions tested (built_sub 0).rules
plan_options = (workers_is, (chunk_is, (fold_is, (inr (inr refl), tt))))

run_options : AreOptions tested (built_sub 1).rules
run_options = (workers_is, (chunk_is, (steps_is, (fold_is, (inr (inr refl), tt)))))

batch_options : AreOptions tested (built_sub 2).rules
batch_options = (workers_is, (chunk_is, (inr (inr refl), tt)))

emu_options : AreOptions tested (built_sub 3).rules
emu_options = (steps_is, (inr (inr refl), tt))

drill_options : AreOptions tested (built_sub 7).rules
drill_options = (seed_is, (functions_is, (workers_is, (chunk_is, (inr (inr refl), tt)))))

explain_options : AreOptions tested (built_sub 8).rules
explain_options = (code_is, (inr (inr refl), tt))

show_options : AreOptions tested (built_sub 9).rules
show_options = (pass_is, (html_is, (workers_is, (chunk_is, (inr (inr refl), tt)))))

build_takes : (word : Text) → Takes word (built_sub 0)
build_takes word words e f = of_build (plan_of_words (built_sub 0) words plan_options (here _ refl refl) (later (here _ refl refl)) f)

run_takes : (word : Text) → Takes word (built_sub 1)
run_takes word words e f =
    of_run (plan_of_words (built_sub 1) words run_options (here _ refl refl) (later (here _ refl refl)) f)
    (steps_of_words (built_sub 1) words run_options (later (later (here _ refl refl))) f)

batch_takes : (word : Text) → Takes word (built_sub 2)
batch_takes word words e f = of_batch (plan_of_words (built_sub 2) words batch_options (here _ refl refl) (later (here _ refl refl)) f)

emu_takes : (word : Text) → Takes word (built_sub 3)
emu_takes word words e f = of_emu (steps_of_words (built_sub 3) words emu_options (here _ refl refl) f)

dump_takes : (word : Text) → Takes word (built_sub 4)
dump_takes word words e f = of_dump

asm_takes : (word : Text) → Takes word (built_sub 5)
asm_takes word words e f = of_asm

table_takes : (word : Text) → Takes word (built_sub 6)
table_takes word words e f = of_table

drill_takes : (word : Text) → Takes word (built_sub 7)
drill_takes word words e f =
    of_drill (text_of_words (built_sub 7) words drill_options (wanted refl refl) (later (wanted refl refl)) f)
    (plan_of_words (built_sub 7) words drill_options (later (later (here _ refl refl))) (later (later (later (here _ refl refl)))) f)

explain_takes : (word : Text) → Takes word (built_sub 8)
explain_takes word words e f = of_explain (code_of_words (built_sub 8) words explain_options (wanted refl refl) f)

show_takes : (word : Text) → Takes word (built_sub 9)
show_takes word words e f = of_show (plan_of_words (built_sub 9) words show_options (later (later (here _ refl refl))) (later (later (later (here _ refl refl)))) f)

all_take : (word : Text) → bytes_eq word (codes "help") ≡ false → AllShapes (Takes word) (built app).subs
all_take word other =
    (build_takes word, (run_takes word, (batch_takes word, (emu_takes word, (dump_takes word, (asm_takes word, (table_takes word, (drill_takes word, (explain_takes word, (show_takes word, ((λ words e f. absurd (help_asked word other e)), tt)))))))))))

-- a subcommand is required
entered_one : (rows : List Row) (has : Bool) → check_fault (built app).top rows has ≡ [] → has ≡ true
entered_one rows true f = refl
entered_one rows false f = cc

-- the words behind the program's name
module _ (words : List Text) where
  abbrev stop : Option (Text × List Text)
  stop = (walk (built app).top.rules (names_of (built app)) nothing_held words).stopped

  by_shape : (p : Text × List Text) (m : Option Shape) → bytes_eq p.0 (codes "help") ≡ false → find (λ s. answers_to p.0 (label_of s)) (built app).subs ≡ m
      → option_map_or (λ s. level_fault s [] nothing_held p.1 false []) m [] ≡ [] → is_some (option_map (λ s. rows_at s p.1) m) ≡ true
      → (s : Text × List Row) × (option_map (λ s. rows_at s p.1) m ≡ Some s) × HasNumbers s.1 s.0
  by_shape p None no_help e f has = cc
  by_shape p (Some s) no_help e f has =
      let got = found_shape (Takes p.0) (λ s. answers_to p.0 (label_of s)) (built app).subs s (all_take p.0 no_help) e in
      (rows_at s p.1, refl, got.0 p.1 got.1 f)

  by_stop : (o : Option (Text × List Text)) → IsNoHelp o → entered_fault (built app) o ≡ [] → is_some (entered (built app) o) ≡ true
      → (s : Text × List Row) × (entered (built app) o ≡ Some s) × HasNumbers s.1 s.0
  by_stop None no_help f has = cc
  by_stop (Some p) no_help f has = by_shape p (find (λ s. answers_to p.0 (label_of s)) (built app).subs) no_help refl f has

  taken_rest : built_fault (built app) nothing_held words ≡ [] → (s : Text × List Row) × (entered (built app) stop ≡ Some s) × HasNumbers s.1 s.0
  taken_rest f =
      let top = (built app).top in
      let names = names_of (built app) in
      let end = (walk top.rules names nothing_held words).held in
      let has = is_some (entered (built app) stop) in
      let settle = settle_fault top.rules top.args_override_self end in
      let defaults = defaults_fault (settled top.rules end).rows top.rules in
      let check = check_fault top (finished top.rules end) has in
      let level = both_none (walk_fault top names (walk_from nothing_held) words) (or_else (entered_fault (built app) stop) (or_else settle (or_else defaults check))) f in
      let below = both_none (entered_fault (built app) stop) (or_else settle (or_else defaults check)) level.1 in
      let checked = both_none defaults check (both_none settle (or_else defaults check) below.1).1 in
      by_stop stop (walk_stops top names refl words (walk_from nothing_held) level.0 tt) below.0 (entered_one (finished top.rules end) has checked.1)

-- the words name a subcommand, and its numbers are in range
pub taken : (words : List Text) → fault_of app words ≡ [] → (s : Text × List Row) × (subcommand_of app words ≡ Some s) × HasNumbers s.1 s.0
taken words f = taken_rest (argument_words (built app) words) f
