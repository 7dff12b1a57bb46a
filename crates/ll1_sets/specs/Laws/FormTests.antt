-- Tests of forms by marks that are sound, and what they say.
use Rattle.std.proofs.Common.{◌≡◌, ℕ, zero, suc, ◌<◌, ◌⊎◌, inl, inr, List, [], ◌∷◌, ◌++◌, length, get_or, Bool, true, false, ◌&&◌, ◌||◌, eqb-true, eq-eqb, Some, refl, sym, ap, ◌∙◌, subst, append-nil, arith}
use Rattle.std.proofs.lemmas.Option.{none-some, same_Some}
use Rattle.std.proofs.lemmas.List.Folds.{list_all-append}
use Rattle.grammar_file.specs.declared.symbols.Symbol.{Symbol}
use Rattle.grammar_file.specs.declared.symbols.Symbol.TheVariants.{Terminal, Nonterminal}
use Rattle.grammar_file.specs.Grammar.{Grammar, Production, production, IsWellFormed}
use Rattle.grammar_file.specs.Derivation.{Derives}
use Rattle.grammar_file.specs.Drive.{Reads, Rule}
use Rattle.grammar_file.specs.Marks.{AreMarksOf}
use Rattle.grammar_file.specs.Laws.Derives.{derives_step, behind_terminal, first_step}
use Rattle.grammar_file.specs.Laws.Derivations.{derives-append, derives-rest}
use Rattle.grammar_file.specs.Laws.Drives.{reads_derives, reads_first, reads_above, reads_below}
use Rattle.grammar_file.specs.Laws.Marks.{IsTurn, unmarked-set, marked_more}
use Rattle.ll1_sets.specs.Predict.{IsNullable, IsFirst}
use Rattle.ll1_sets.specs.Marking.{vanishes, all_vanish, starts, begins, IsNextBy, IsClosedBy}

pub both : (a b : Bool) → (a && b) ≡ true → (a ≡ true) × (b ≡ true)
both true b h = (refl, h)
both false b h = absurd (cc)

pub and : (a b : Bool) → a ≡ true → b ≡ true → (a && b) ≡ true
and true b h k = k
and false b h k = absurd (cc)

pub either : (a b : Bool) → (a || b) ≡ true → (a ≡ true) ⊎ (b ≡ true)
either true b h = inl refl
either false b h = inr h

pub or_left : (a b : Bool) → a ≡ true → (a || b) ≡ true
or_left true b h = refl
or_left false b h = absurd (cc)

pub or_right : (a b : Bool) → b ≡ true → (a || b) ≡ true
or_right true b h = refl
or_right false b h = h

shuffled : (x y p q r : Bool) → (x || (y && (p || (q && r)))) ≡ ((x || (y && p)) || ((y && q) && r))
shuffled true y p q r = refl
shuffled false true p q r = refl
shuffled false false p q r = refl

pub begins-append : (nullable first : List Bool) (b : ℕ) (u v : List Symbol) → begins nullable first b (u ++ v) ≡ (begins nullable first b u || (all_vanish nullable u && begins nullable first b v))
begins-append nullable first b [] v = refl
begins-append nullable first b (s ∷ u) v =
    ap (λ (t : Bool). starts first b s || (vanishes nullable s && t)) (begins-append nullable first b u v) ∙ shuffled (starts first b s) (vanishes nullable s) (begins nullable first b u) (all_vanish nullable u) (begins nullable first b v)

-- one more mark on a nonterminal of the grammar
pub marking_turn : (P : ℕ → Type 0) (marks : List Bool) (a n : ℕ) → length marks ≡ n → a < n → get_or marks a false ≡ false → P a → ((x : ℕ) → get_or marks x false ≡ true → P x) → IsTurn P marks a
marking_turn P marks a n len lt new here sound =
    let within : a < length marks = omega arith in
    record { within = within; less = unmarked-set marks a within new; sound = marked_more P marks a here sound }

module _ (g : Grammar) where
  -- ---- what the rules give

  pub rule_of : (place : ℕ) (rule : Production) (a : ℕ) → production g (suc place) ≡ Some rule → rule.left ≡ a → Rule g (suc place) a rule.right
  rule_of place rule a is left = is ∙ ap (λ (n : ℕ). Some (record { left = n; right = rule.right })) left

  pub nullable_rule : (p a : ℕ) (r : List Symbol) → Rule g p a r → IsNullable g r → IsNullable g (Nonterminal a ∷ [])
  nullable_rule p a r e h = (p ∷ h.0, derives_step g p a r [] h.0 [] e (subst (λ f. Derives g f h.0 []) (sym (append-nil r)) h.1))

  pub first_rule : (p a b : ℕ) (r : List Symbol) → Rule g p a r → IsFirst g r b → IsFirst g (Nonterminal a ∷ []) b
  first_rule p a b r e h = (p ∷ h.0, h.1, derives_step g p a r [] h.0 (Terminal b ∷ h.1) e (subst (λ f. Derives g f h.0 (Terminal b ∷ h.1)) (sym (append-nil r)) h.2))

  pub nullable_both : (u v : List Symbol) → IsNullable g u → IsNullable g v → IsNullable g (u ++ v)
  nullable_both u v h k = (h.0 ++ k.0, derives-append g h.0 k.0 (u ++ v) v [] (derives-rest g h.0 u [] v h.1) k.1)

  pub first_front : (b : ℕ) (u v : List Symbol) → IsFirst g u b → IsFirst g (u ++ v) b
  first_front b u v h =
      let f = reads_first g b h.0 u h.1 h.2 in
      (f.ps1, f.left ++ v, reads_derives g b f.ps1 (u ++ v) (f.left ++ v) (reads_above g b f.ps1 u f.left v f.reads))

  pub first_behind : (b : ℕ) (u v : List Symbol) → IsNullable g u → IsFirst g v b → IsFirst g (u ++ v) b
  first_behind b u v n h =
      let f = reads_first g b h.0 v h.1 h.2 in
      (n.0 ++ f.ps1, f.left, reads_derives g b (n.0 ++ f.ps1) (u ++ v) f.left (reads_below g b n.0 f.ps1 u v f.left n.1 f.reads))

  abbrev pub Nullable : ℕ → Type 0
  Nullable a = IsNullable g (Nonterminal a ∷ [])

  abbrev pub First : ℕ → ℕ → Type 0
  First b a = IsFirst g (Nonterminal a ∷ []) b

  -- ---- forms that pass are so

  pub vanishing : (marks : List Bool) → ((a : ℕ) → get_or marks a false ≡ true → Nullable a) → (u : List Symbol) → all_vanish marks u ≡ true → IsNullable g u
  vanishing marks sound [] h = ([], refl)
  vanishing marks sound (Terminal a ∷ u) h = absurd (cc)
  vanishing marks sound (Nonterminal a ∷ u) h =
      let k = both (get_or marks a false) (all_vanish marks u) h in
      nullable_both (Nonterminal a ∷ []) u (sound a k.0) (vanishing marks sound u k.1)

  pub beginning : (nullable first : List Bool) (b : ℕ) → ((a : ℕ) → get_or nullable a false ≡ true → Nullable a) → ((a : ℕ) → get_or first a false ≡ true → First b a)
      → (u : List Symbol) → begins nullable first b u ≡ true → IsFirst g u b
  beginning nullable first b null sound [] h = absurd (cc)
  beginning nullable first b null sound (s ∷ u) h = go (λ k. beginning nullable first b null sound u k) s (either (starts first b s) (vanishes nullable s && begins nullable first b u) h)
    where
      go : (begins nullable first b u ≡ true → IsFirst g u b) → (s : Symbol) → (starts first b s ≡ true) ⊎ ((vanishes nullable s && begins nullable first b u) ≡ true) → IsFirst g (s ∷ u) b
      go more (Terminal a) (inl k) = ([], u, ap (λ (n : ℕ). Some (Terminal n ∷ u)) (eqb-true a b k))
      go more (Nonterminal a) (inl k) = first_front b (Nonterminal a ∷ []) u (sound a k)
      go more (Terminal a) (inr k) = absurd (cc)
      go more (Nonterminal a) (inr k) =
          let t = both (get_or nullable a false) (begins nullable first b u) k in
          first_behind b (Nonterminal a ∷ []) u (null a t.0) (more t.1)

  -- ---- and forms that are so pass, where the marks are closed under the rules

  module _ (nullable : List Bool) (closed : (p a : ℕ) (r : List Symbol) → Rule g p a r → all_vanish nullable r ≡ true → get_or nullable a false ≡ true) where
    pub nullable_vanishes : (ps : List ℕ) (u : List Symbol) → Derives g u ps [] → all_vanish nullable u ≡ true
    nullable_vanishes [] u d = ap (all_vanish nullable) (same_Some _ _ d)
    nullable_vanishes (p ∷ ps) [] d = refl
    nullable_vanishes (p ∷ ps) (Terminal a ∷ u) d = let e = (behind_terminal g a u (p ∷ ps) [] d).1 in absurd (cc)
    nullable_vanishes (p ∷ ps) (Nonterminal a ∷ u) d =
        let s = first_step g p a u ps [] d in
        let i = both (all_vanish nullable s.0) (all_vanish nullable u) (sym (list_all-append (vanishes nullable) s.0 u) ∙ nullable_vanishes ps (s.0 ++ u) s.2) in
        and (get_or nullable a false) (all_vanish nullable u) (closed p a s.0 s.1 i.0) i.1

    module _ (first : List Bool) (b : ℕ) (closed_first : (p a : ℕ) (r : List Symbol) → Rule g p a r → begins nullable first b r ≡ true → get_or first a false ≡ true) where
      reading_begins : (ps : List ℕ) (stack v : List Symbol) → Reads g b ps stack v → begins nullable first b stack ≡ true
      reading_begins [] stack v h = ap (begins nullable first b) h ∙ or_left (starts first b (Terminal b)) (vanishes nullable (Terminal b) && begins nullable first b v) (eq-eqb b b refl)
      reading_begins (p ∷ ps) stack v h =
          let r = h.1 in
          let rest = h.2 in
          let i = either (begins nullable first b r) (all_vanish nullable r && begins nullable first b rest) (sym (begins-append nullable first b r rest) ∙ reading_begins ps (r ++ rest) v h.5) in
          ap (begins nullable first b) h.3 ∙ go i
        where
          go : (begins nullable first b h.1 ≡ true) ⊎ ((all_vanish nullable h.1 && begins nullable first b h.2) ≡ true) → begins nullable first b (Nonterminal h.0 ∷ h.2) ≡ true
          go (inl k) = or_left (get_or first h.0 false) (get_or nullable h.0 false && begins nullable first b h.2) (closed_first p h.0 h.1 h.4 k)
          go (inr k) =
              let t = both (all_vanish nullable h.1) (begins nullable first b h.2) k in
              or_right (get_or first h.0 false) (get_or nullable h.0 false && begins nullable first b h.2) (and (get_or nullable h.0 false) (begins nullable first b h.2) (closed p h.0 h.1 h.4 t.0) t.1)

      pub first_begins : (u : List Symbol) → IsFirst g u b → begins nullable first b u ≡ true
      first_begins u h = let f = reads_first g b h.0 u h.1 h.2 in reading_begins f.ps1 u f.left f.reads

  -- ---- marks that are sound and complete

  -- by marks of what derives nothing
  module _ (nullable : List Bool) (are : AreMarksOf g Nullable nullable) where
    pub nullable_closed : (p a : ℕ) (r : List Symbol) → Rule g p a r → all_vanish nullable r ≡ true → get_or nullable a false ≡ true
    nullable_closed p a r rule h = are.complete a (nullable_rule p a r rule (vanishing nullable are.sound r h))

    pub vanishes_exactly : (u : List Symbol) → IsNullable g u → all_vanish nullable u ≡ true
    vanishes_exactly u h = nullable_vanishes nullable nullable_closed h.0 u h.1

    module _ (b : ℕ) (first : List Bool) (firsts : AreMarksOf g (First b) first) where
      first_closed : (p a : ℕ) (r : List Symbol) → Rule g p a r → begins nullable first b r ≡ true → get_or first a false ≡ true
      first_closed p a r rule h = firsts.complete a (first_rule p a b r rule (beginning nullable first b are.sound firsts.sound r h))

      pub begins_exactly : (u : List Symbol) → IsFirst g u b → begins nullable first b u ≡ true
      begins_exactly u h = first_begins nullable nullable_closed first b first_closed u h

  -- where no nonterminal is left to be marked, the marks are closed under the rules
  pub closed_by : (test : List Symbol → Bool) (marks : List Bool) → IsClosedBy test g.productions marks → (p a : ℕ) (r : List Symbol) → Rule g p a r → test r ≡ true → get_or marks a false ≡ true
  closed_by test marks closed zero a r rule h = absurd (none-some _ rule)
  closed_by test marks closed (suc p) a r rule h = closed p (record { left = a; right = r }) rule h

  pub nullable_marked : (marks : List Bool) → IsClosedBy (all_vanish marks) g.productions marks → (a : ℕ) → Nullable a → get_or marks a false ≡ true
  nullable_marked marks closed a h = (both (get_or marks a false) true (nullable_vanishes marks (closed_by (all_vanish marks) marks closed) h.0 (Nonterminal a ∷ []) h.1)).0

  pub nullable_turn : IsWellFormed g → (marks : List Bool) (a : ℕ) → length marks ≡ length g.nonterminals → ((x : ℕ) → get_or marks x false ≡ true → Nullable x)
      → IsNextBy (all_vanish marks) g.productions marks a → IsTurn Nullable marks a
  nullable_turn well marks a len sound next =
      marking_turn Nullable marks a (length g.nonterminals) len (subst (λ n. n < length g.nonterminals) next.left_is (well.lefts (suc next.place) next.rule next.rule_is)) next.is_new
      (nullable_rule (suc next.place) a next.rule.right (rule_of next.place next.rule a next.rule_is next.left_is) (vanishing marks sound next.rule.right next.right_is)) sound

  module _ (nullable : List Bool) (are : AreMarksOf g Nullable nullable) (b : ℕ) where
    pub first_marked : (marks : List Bool) → IsClosedBy (begins nullable marks b) g.productions marks → (a : ℕ) → First b a → get_or marks a false ≡ true
    first_marked marks closed a h = go (either (get_or marks a false) (get_or nullable a false && false) (first_begins nullable (nullable_closed nullable are) marks b (closed_by (begins nullable marks b) marks closed) (Nonterminal a ∷ []) h))
      where
        go : (get_or marks a false ≡ true) ⊎ ((get_or nullable a false && false) ≡ true) → get_or marks a false ≡ true
        go (inl k) = k
        go (inr k) = absurd (let t = both (get_or nullable a false) false k in let e = t.1 in cc)

    pub first_turn : IsWellFormed g → (marks : List Bool) (a : ℕ) → length marks ≡ length g.nonterminals → ((x : ℕ) → get_or marks x false ≡ true → First b x)
        → IsNextBy (begins nullable marks b) g.productions marks a → IsTurn (First b) marks a
    first_turn well marks a len sound next =
        marking_turn (First b) marks a (length g.nonterminals) len (subst (λ n. n < length g.nonterminals) next.left_is (well.lefts (suc next.place) next.rule next.rule_is)) next.is_new
        (first_rule (suc next.place) a b next.rule.right (rule_of next.place next.rule a next.rule_is next.left_is) (beginning nullable marks b are.sound sound next.rule.right next.right_is)) sound
