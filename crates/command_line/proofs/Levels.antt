-- A parse of one command in which `clap` finds no fault keeps good rows alone.
use Rattle.std.proofs.Common.{arith, ◌≡◌, ◌&&◌, ◌||◌, not, ℕ, Bool, cond, true, false, zero, suc, refl, subst, List, [], ◌∷◌, length, drop, Option, Some, None, inl, inr}
use Rattle.std.proofs.lemmas.Bool.{ne_eqb}
use Rattle.std.specs.List.{list_any}
use Rattle.clap.specs.Takes.{is_given}
use Rattle.clap.specs.Facts.{explicit_source}
use Rattle.std.specs.Prelude.{find, fold, slice_get, encode_utf8, is_some}
use Rattle.std.specs.Option.{option_map_or}
use Rattle.std.specs.Str.{bytes_eq, chars}
use Rattle.clap.specs.Lexer.{long_of, short_of}
use Rattle.clap.specs.Kinds.{Kinds, or_else, request_kinds, check_kinds}
use Rattle.clap.specs.Simple.{Shape}
use Rattle.clap.specs.Walk.{Text, Rule, Row, Held, Names, Outcome, done, waits, plain, refused, Step, next, trailing, subcommand, value, Waiting, idle, option, positional, Walk, arg_by_id, arg_by_long, arg_by_short, arg_by_index, takes_values, settled, settled_rows, used_by_id, reacted, option_met, flag_met, long_met, attached_value, short_met, bundle_step, bundle_met, bundle, plain_word, option_word, after_flag, short_or_plain, long_or_other, subcommand_met, subcommand_or_other, word_met, is_pending, takes_several, to_positional, after_step, walked_from, walked, walk_from, has_row, with_default, default_rows, with_values, is_empty, finished, nothing_held, rows_after, reading_by, action_of, first_of, walk}
use Rattle.clap.specs.Faults.{use_fault, settle_fault, react_fault, option_fault, long_fault, short_fault, bundle_step_fault, flags_fault, bundle_fault, flag_word_fault, other_fault, word_fault, positional_fault, stray_fault, step_fault, turn_fault, walk_fault, given_default_fault, default_fault, defaults_fault, values_fault, check_fault, level_fault}
use Rattle.clap.specs.declared.error.kind.ErrorKind.TheVariants as kind
use Rattle.clap.specs.declared.parser.matches.ValueSource.TheVariants.{DefaultValue}
use Rattle.command_line.proofs.Rows.{both_none, AreGood, AreOptions, IsOption, IsTested, found_option, used_good, passing, with_values_good, values_row, keeps_row, first_good}

module _ (ok : Text → Text → Bool) (c : List Rule) (options : AreOptions ok c) (again : Bool) where
  abbrev Good : Held → Type 0
  Good h = AreGood ok h.rows

  found : (p : Rule → Bool) (a : Rule) → find p c ≡ Some a → IsOption ok a
  found p a e = found_option ok p c a options e

  settled_good : (h : Held) → settle_fault c again h ≡ [] → Good h → Good (settled c h)
  settled_good h f good = go h.pending f
    where
      by_id : (p : Text × List Text) (m : Option Rule) → arg_by_id c p.0 ≡ m → option_map_or (λ a. use_fault again a p.1 h.rows) m [] ≡ [] → AreGood ok (used_by_id m p.1 h.rows)
      by_id p None e f = good
      by_id p (Some a) e f = used_good ok again a p.1 h.rows (found (λ a. bytes_eq a.id p.0) a e) f good

      go : (o : Option (Text × List Text)) → option_map_or (λ p. option_map_or (λ a. use_fault again a p.1 h.rows) (arg_by_id c p.0) []) o [] ≡ [] → AreGood ok (settled_rows c o h.rows)
      go None f = good
      go (Some p) f = by_id p (arg_by_id c p.0) refl f

  reacted_good : (a : Rule) (vs : List Text) (h : Held) → IsOption ok a → react_fault c again a vs h ≡ [] → Good h → Good (reacted c a vs h)
  reacted_good a vs h is f good =
      let parts = both_none (settle_fault c again h) (use_fault again a vs (settled c h).rows) f in
      used_good ok again a vs (settled c h).rows is parts.1 (settled_good h parts.0 good)

  option_good : (a : Rule) (v : Option Text) (h : Held) → IsOption ok a → option_fault c again a v h ≡ [] → Good h → Good (option_met c a v h).0
  option_good a (Some v) h is f good = reacted_good a (v ∷ []) h is f good
  option_good a None h is f good = settled_good h f good

  long_good : (name : Text) (v : Option Text) (h : Held) → long_fault c again (arg_by_long c name) v h ≡ [] → Good h → Good (long_met c (arg_by_long c name) v h).0
  long_good name v h f good = go (arg_by_long c name) refl f
    where
      flag : (a : Rule) (w : Option Text) → IsOption ok a → cond (is_some w) (kind.TooManyValues ∷ []) (react_fault c again a [] h) ≡ [] → Good (flag_met c a w h).0
      flag a (Some w) is f = good
      flag a None is f = reacted_good a [] h is f good

      met : (a : Rule) (b : Bool) → IsOption ok a → cond b (option_fault c again a v h) (cond (is_some v) (kind.TooManyValues ∷ []) (react_fault c again a [] h)) ≡ []
          → Good (cond b (option_met c a v h) (flag_met c a v h)).0
      met a true is f = option_good a v h is f good
      met a false is f = flag a v is f

      go : (m : Option Rule) → arg_by_long c name ≡ m → long_fault c again m v h ≡ [] → Good (long_met c m v h).0
      go None e f = good
      go (Some a) e f = met a (takes_values a) (found _ a e) f

  short_good : (x : ℕ) (rest : Text) (h : Held) (nf : Held → Kinds) (nx : Held → Held × Outcome) → ((k : Held) → nf k ≡ [] → Good k → Good (nx k).0)
      → short_fault c again (arg_by_short c x) rest h nf ≡ [] → Good h → Good (short_met c (arg_by_short c x) rest h nx).0
  short_good x rest h nf nx more f good = go (arg_by_short c x) refl f
    where
      met : (a : Rule) (b : Bool) → IsOption ok a → cond b (option_fault c again a (attached_value rest) h) (or_else (react_fault c again a [] h) (nf (reacted c a [] h))) ≡ []
          → Good (cond b (option_met c a (attached_value rest) h) (nx (reacted c a [] h))).0
      met a true is f = option_good a (attached_value rest) h is f good
      met a false is f =
          let parts = both_none (react_fault c again a [] h) (nf (reacted c a [] h)) f in
          more (reacted c a [] h) parts.1 (reacted_good a [] h is parts.0 good)

      go : (m : Option Rule) → arg_by_short c x ≡ m → short_fault c again m rest h nf ≡ [] → Good (short_met c m rest h nx).0
      go None e f = good
      go (Some a) e f = met a (takes_values a) (found _ a e) f

  bundle_met_good : (n : ℕ) (flags : Text) (skip : ℕ) (so_far : Outcome) (h : Held) → flags_fault c again n flags skip h ≡ [] → Good h → Good (bundle_met c n flags skip so_far h).0
  unfolding bundle_met flags_fault
  bundle_met_good zero flags skip so_far h f good = good
  bundle_met_good (suc n) flags skip so_far h f good = go (slice_get (chars flags) 0) skip f (bundle_met_good n)
    where
      go : (o : Option ℕ) (skip : ℕ) → bundle_step_fault c again o flags skip h (flags_fault c again n) ≡ []
          → ((flags : Text) (skip : ℕ) (so_far : Outcome) (h : Held) → flags_fault c again n flags skip h ≡ [] → Good h → Good (bundle_met c n flags skip so_far h).0)
          → Good (bundle_step c o flags skip so_far h (bundle_met c n)).0
      go None skip f rec = good
      go (Some x) zero f rec =
          let rest = drop (length (encode_utf8 x)) flags in
          short_good x rest h (flags_fault c again n rest 0) (bundle_met c n rest 0 done) (λ k. rec rest 0 done k) f good
      go (Some x) (suc skip) f rec = rec (drop (length (encode_utf8 x)) flags) skip so_far h f good

  bundle_good : (flags : Text) (h : Held) → bundle_fault c again flags h ≡ [] → Good h → Good (bundle c flags h).0
  bundle_good flags h f good = bundle_met_good (length flags) flags h.skip plain (record h { skip = 0 }) f good

  plain_good : (waiting : Waiting) (word : Text) (h : Held) → Good h → Good (plain_word c waiting word h).0
  plain_good idle word h good = good
  plain_good positional word h good = good
  plain_good (option id) word h good = go (arg_by_id c id)
    where
      go : (m : Option Rule) → Good (option_word m id word h).0
      go None = good
      go (Some a) = good

  after_good : (waiting : Waiting) (word : Text) (h : Held) (o : Outcome) → Good h → Good (after_flag c waiting word h o).0
  after_good waiting word h done good = good
  after_good waiting word h (waits id) good = good
  after_good waiting word h plain good = plain_good waiting word h good
  after_good waiting word h refused good = plain_good waiting word h good

  flag_good : (waiting : Waiting) (word : Text) (h : Held) (o : Option (Text × Option Text)) → flag_word_fault c again o word h ≡ [] → Good h → Good (long_or_other c waiting word o h).0
  flag_good waiting word h (Some p) f good = after_good waiting word _ _ (long_good p.0 p.1 h f good)
  flag_good waiting word h None f good = go (short_of word) f
    where
      go : (o : Option Text) → option_map_or (λ flags. bundle_fault c again flags h) o [] ≡ [] → Good (short_or_plain c waiting word o h).0
      go None f = plain_good waiting word h good
      go (Some flags) f = after_good waiting word _ _ (bundle_good flags h f good)

-- ---- one command

module _ (ok : Text → Text → Bool) (s : Shape) (options : AreOptions ok s.rules) (names : Names) where
  word_good : (is_trailing : Bool) (waiting : Waiting) (position : ℕ) (word : Text) (h : Held) → word_fault s names is_trailing waiting word h ≡ [] → AreGood ok h.rows
      → AreGood ok (word_met s.rules names is_trailing waiting position word h).0.rows
  word_good true waiting position word h f good = good
  word_good false waiting position word h f good = go (subcommand_met names waiting word) f
    where
      other : (b : Bool) → cond b [] (flag_word_fault s.rules s.args_override_self (long_of word) word h) ≡ []
          → AreGood ok (cond b (h, trailing position) (long_or_other s.rules waiting word (long_of word) h)).0.rows
      other true f = good
      other false f = flag_good ok s.rules options s.args_override_self waiting word h (long_of word) f good

      go : (o : Option Text) → other_fault s o word h ≡ [] → AreGood ok (subcommand_or_other s.rules o waiting position word h).0.rows
      go (Some name) f = good
      go None f = other (bytes_eq word (45 ∷ 45 ∷ [])) f

  step_good : (word : Text) (w : Walk) (h : Held) (t : Step) → step_fault s w.position h t ≡ [] → AreGood ok h.rows → AreGood ok (after_step s.rules word w h t).held.rows
  step_good word w h (next waiting) f good = good
  step_good word w h (trailing position) f good = good
  step_good word w h (subcommand name) f good = good
  step_good word w h value f good = go (arg_by_index s.rules w.position) f
    where
      held : (a : Rule) (b : Bool) → cond b [] (settle_fault s.rules s.args_override_self h) ≡ [] → AreGood ok (cond b h (settled s.rules h)).rows
      held a true f = good
      held a false f = settled_good ok s.rules options s.args_override_self h f good

      go : (m : Option Rule) → option_map_or (λ a. positional_fault s.rules s.args_override_self a h) m (stray_fault s) ≡ [] → AreGood ok (to_positional s.rules m word w h).held.rows
      go None f = good
      go (Some a) f = held a (is_pending a h.pending && takes_several a) f

  turn_good : (w : Walk) (word : Text) → turn_fault s names w word ≡ [] → AreGood ok w.held.rows → AreGood ok (walked s.rules names w word).held.rows
  unfolding walked
  turn_good w word f good = go w.stopped f
    where
      go : (o : Option (Text × List Text))
          → cond (is_some o) [] (or_else (word_fault s names w.is_trailing w.waiting word w.held)
          (step_fault s w.position (word_met s.rules names w.is_trailing w.waiting w.position word w.held).0 (word_met s.rules names w.is_trailing w.waiting w.position word w.held).1)) ≡ []
          → AreGood ok (walked_from s.rules names o w word).held.rows
      go (Some p) f = good
      go None f =
          let met = word_met s.rules names w.is_trailing w.waiting w.position word w.held in
          let parts = both_none (word_fault s names w.is_trailing w.waiting word w.held) (step_fault s w.position met.0 met.1) f in
          step_good word w met.0 met.1 parts.1 (word_good w.is_trailing w.waiting w.position word w.held parts.0 good)

  walk_good : (words : List Text) (w : Walk) → walk_fault s names w words ≡ [] → AreGood ok w.held.rows → AreGood ok (fold (walked s.rules names) w words).held.rows
  unfolding walk_fault
  walk_good [] w f good = good
  walk_good (word ∷ rest) w f good =
      let parts = both_none (turn_fault s names w word) (walk_fault s names (walked s.rules names w word) rest) f in
      walk_good rest (walked s.rules names w word) parts.1 (turn_good w word parts.0 good)

-- ---- defaults

not_empty : (d : Text) (ds : List Text) → is_empty (d ∷ ds) ≡ false
not_empty d ds = ne_eqb _ _ (λ e. absurd (omega arith))

module _ (ok : Text → Text → Bool) where
  default_good : (rows : List Row) (a : Rule) → IsOption ok a → default_fault rows a ≡ [] → AreGood ok rows → AreGood ok (with_default rows a)
  default_good rows a is f good = go (has_row a.id rows) a.defaults f
    where
      kept : (ds : List Text) (d : Text) → IsTested ok a → given_default_fault a (d ∷ ds) ≡ [] → AreGood ok (with_values a.id (reading_by a) DefaultValue (d ∷ ds) rows)
      kept ds d tested f =
          let parts = both_none (request_kinds (action_of a)) (values_fault a (d ∷ ds)) f in
          with_values_good ok a.id (reading_by a) DefaultValue (d ∷ ds) rows (omega arith) (passing ok a tested (d ∷ ds) parts.1) good

      given : (ds : List Text) (d : Text) → IsOption ok a → given_default_fault a (d ∷ ds) ≡ [] → AreGood ok (with_values a.id (reading_by a) DefaultValue (d ∷ ds) rows)
      given ds d (inl n) f = kept ds d n.tested f
      given ds d (inr (inl n)) f = kept ds d n.tested f
      given ds d (inr (inr e)) f =
          let parts = both_none (request_kinds (action_of a)) (values_fault a (d ∷ ds)) f in
          let asks = rw e at parts.0 in
          cc

      go : (b : Bool) (ds : List Text) → cond (b || is_empty ds) [] (given_default_fault a ds) ≡ [] → AreGood ok (cond b rows (default_rows a.id (reading_by a) ds rows))
      go true ds f = good
      go false [] f = good
      go false (d ∷ ds) f = given ds d is (rw (not_empty d ds) at f)

  defaults_good : (rules : List Rule) (rows : List Row) → AreOptions ok rules → defaults_fault rows rules ≡ [] → AreGood ok rows → AreGood ok (fold with_default rows rules)
  unfolding defaults_fault
  defaults_good [] rows options f good = good
  defaults_good (a ∷ rest) rows options f good =
      let parts = both_none (default_fault rows a) (defaults_fault (with_default rows a) rest) f in
      defaults_good rest (with_default rows a) options.1 parts.1 (default_good rows a options.0 parts.0 good)

-- an option with a default has a row in the end
keeps_default : (id : Text) (rows : List Row) (a : Rule) → has_row id rows ≡ true → has_row id (with_default rows a) ≡ true
keeps_default id rows a has = go (has_row a.id rows) a.defaults
  where
    go : (b : Bool) (ds : List Text) → has_row id (cond b rows (default_rows a.id (reading_by a) ds rows)) ≡ true
    go true ds = has
    go false [] = has
    go false (d ∷ ds) = keeps_row id a.id (reading_by a) DefaultValue (d ∷ ds) rows has

keeps_defaults : (id : Text) (rules : List Rule) (rows : List Row) → has_row id rows ≡ true → has_row id (fold with_default rows rules) ≡ true
keeps_defaults id [] rows has = has
keeps_defaults id (a ∷ rest) rows has = keeps_defaults id rest (with_default rows a) (keeps_default id rows a has)

made_default : (rows : List Row) (a : Rule) (d : Text) → a.defaults ≡ d ∷ [] → has_row a.id (with_default rows a) ≡ true
made_default rows a d e = rw e (go (has_row a.id rows) refl)
  where
    go : (b : Bool) → has_row a.id rows ≡ b → has_row a.id (cond b rows (with_values a.id (reading_by a) DefaultValue (d ∷ []) rows)) ≡ true
    go true h = h
    go false h = values_row a.id (reading_by a) DefaultValue (d ∷ []) rows

-- ---- required options

-- a rule is required whose option the words don't give
abbrev lacks : List Row → List Rule → Bool
lacks rows rules = list_any (λ a. a.required && not (is_given a.id rows)) rules

given_row : (id : Text) (rows : List Row) → is_given id rows ≡ true → has_row id rows ≡ true
given_row id [] h = cc
given_row id (r ∷ rs) h = go (bytes_eq r.id id) h (given_row id rs)
  where
    go : (b : Bool) → option_map_or (λ r. explicit_source r.source) (cond b (Some r) (find (λ r. bytes_eq r.id id) rs)) false ≡ true
        → (is_given id rs ≡ true → has_row id rs ≡ true) → (b || has_row id rs) ≡ true
    go true h rec = refl
    go false h rec = rec h

neither : (a b : Bool) → (a || b) ≡ false → (a ≡ false) × (b ≡ false)
neither true b h = cc
neither false b h = (refl, h)

given : (wanted is : Bool) → wanted ≡ true → (wanted && not is) ≡ false → is ≡ true
given true true e h = refl
given true false e h = cc
given false is e h = cc

no_kinds : (help below argument : Bool) → check_kinds help below argument ≡ [] → argument ≡ false
no_kinds true below argument h = cc
no_kinds false true argument h = cc
no_kinds false false true h = cc
no_kinds false false false h = refl

not_negated : (negates argument : Bool) → (not (negates && false) && argument) ≡ false → argument ≡ false
not_negated true argument h = h
not_negated false argument h = h

lacks_none : (s : Shape) (rows : List Row) → check_fault s rows false ≡ [] → lacks rows s.rules ≡ false
lacks_none s rows h = not_negated s.subcommand_negates_reqs (lacks rows s.rules) (no_kinds _ _ _ h)

-- the rule with this id has one default, or is required
pub data IsThere (id : Text) : List Rule → Type 0 where
  here : {a : Rule} {rest : List Rule} (d : Text) → a.id ≡ id → a.defaults ≡ d ∷ [] → IsThere id (a ∷ rest)
  wanted : {a : Rule} {rest : List Rule} → a.id ≡ id → a.required ≡ true → IsThere id (a ∷ rest)
  later : {a : Rule} {rest : List Rule} → IsThere id rest → IsThere id (a ∷ rest)

there_row : (id : Text) (rules : List Rule) (rows : List Row) → IsThere id rules → lacks (fold with_default rows rules) rules ≡ false
    → has_row id (fold with_default rows rules) ≡ true
there_row id [] rows x h = elim x [ ]
there_row id (a ∷ rest) rows (here d same e) h =
    keeps_defaults id rest (with_default rows a) (subst (λ (i : Text). has_row i (with_default rows a) ≡ true) same (made_default rows a d e))
there_row id (a ∷ rest) rows (wanted same e) h =
    let end = fold with_default (with_default rows a) rest in
    let first = neither (a.required && not (is_given a.id end)) (lacks end rest) h in
    subst (λ (i : Text). has_row i end ≡ true) same (given_row a.id end (given a.required (is_given a.id end) e first.0))
there_row id (a ∷ rest) rows (later x) h =
    let end = fold with_default (with_default rows a) rest in
    there_row id rest (with_default rows a) x (neither (a.required && not (is_given a.id end)) (lacks end rest) h).1

-- ---- a whole level

-- the first value of an option with a default, or of one that is required, passes the test
pub level_value : (ok : Text → Text → Bool) (s : Shape) (words : List Text) (id : Text) → AreOptions ok s.rules → IsThere id s.rules
    → level_fault s [] nothing_held words false [] ≡ []
    → (t : Text) × (first_of id (rows_after s.rules [] words) ≡ Some t) × (ok id t ≡ true)
level_value ok s words id options there f =
    let end = (walk s.rules [] nothing_held words).held in
    let walked_none = both_none (walk_fault s [] (walk_from nothing_held) words) _ f in
    let settled_none = both_none (settle_fault s.rules s.args_override_self end) _ walked_none.1 in
    let defaults_none = both_none (defaults_fault (settled s.rules end).rows s.rules) (check_fault s (finished s.rules end) false) settled_none.1 in
    let good = defaults_good ok s.rules (settled s.rules end).rows options defaults_none.0
    (settled_good ok s.rules options s.args_override_self end settled_none.0 (walk_good ok s options [] words (walk_from nothing_held) walked_none.0 tt)) in
    first_good ok id (rows_after s.rules [] words) good (there_row id s.rules (settled s.rules end).rows there (lacks_none s (finished s.rules end) defaults_none.1))
