-- LAST by marks, and what is matched last behind a form.
use Rattle.std.proofs.Common.{◌≡◌, ℕ, suc, ◌<◌, ◌⊎◌, inl, inr, List, [], ◌∷◌, ◌++◌, length, get_or, Bool, true, false, ◌&&◌, ◌||◌, ◌==◌, eqb-true, eq-eqb, Some, refl, sym, ap, ◌∙◌, subst, append-nil, append_assoc}
use Rattle.std.proofs.lemmas.List.Folds.{list_all-append}
use Rattle.std.proofs.lemmas.Option.{same_Some}
use Rattle.grammar_file.specs.declared.symbols.Symbol.{Symbol}
use Rattle.grammar_file.specs.declared.symbols.Symbol.TheVariants.{Terminal, Nonterminal}
use Rattle.grammar_file.specs.Grammar.{Grammar, IsWellFormed}
use Rattle.grammar_file.specs.Derivation.{Derives, word_form}
use Rattle.grammar_file.specs.Drive.{Rule}
use Rattle.grammar_file.specs.Marks.{AreMarksOf}
use Rattle.grammar_file.specs.Spelling.{IsReduced}
use Rattle.grammar_file.specs.Laws.Derives.{derives_step, derives_both, derives_terminal, behind_terminal, first_step, derives_nil}
use Rattle.grammar_file.specs.Laws.Forms.{Ours, word_of}
use Rattle.grammar_file.specs.Laws.Marks.{IsTurn}
use Rattle.grammar_file.specs.Laws.Words.{same_head, same_tail, same_terminal, nil-cons, nonterminal-word}
use Rattle.ll1_sets.specs.Predict.{IsNullable}
use Rattle.ll1_sets.specs.Marking.{vanishes, all_vanish, starts, IsNextBy, IsClosedBy}
use Rattle.ll1_sets.specs.Laws.FormTests.{both, and, either, or_left, or_right, marking_turn, rule_of, Nullable, vanishing, vanishes_exactly, closed_by}
use Rattle.llp_wide.specs.WideBehind.{last_behind, IsEnding}
use Rattle.llp_wide.specs.Endings.{IsLast, finishes, is_ending}

shuffled : (x p q r t : Bool) → ((x && (p && q)) || ((r && q) || t)) ≡ ((((x && p) || r) && q) || t)
shuffled true true true r t = refl
shuffled true true false true t = refl
shuffled true true false false t = refl
shuffled true false q r t = refl
shuffled false p q r t = refl

pub finishes-append : (nullable last : List Bool) (y : ℕ) (u v : List Symbol) → finishes nullable last y (u ++ v) ≡ ((finishes nullable last y u && all_vanish nullable v) || finishes nullable last y v)
finishes-append nullable last y [] v = refl
finishes-append nullable last y (s ∷ u) v =
    (λ i. (starts last y s && list_all-append (vanishes nullable) u v i) || finishes-append nullable last y u v i)
    ∙ shuffled (starts last y s) (all_vanish nullable u) (all_vanish nullable v) (finishes nullable last y u) (finishes nullable last y v)

pub last_of_word : (z : ℕ) (word : List ℕ) (y : ℕ) → last_behind z (word ++ y ∷ []) ≡ y
last_of_word z [] y = refl
last_of_word z (c ∷ word) y = last_of_word c word y

-- a word is empty, or has a last terminal
pub word_end : (word : List ℕ) → (word ≡ []) ⊎ ((front : List ℕ) × (y : ℕ) × (word ≡ front ++ y ∷ []))
word_end [] = inl refl
word_end (c ∷ word) = go (word_end word)
  where
    go : (word ≡ []) ⊎ ((front : List ℕ) × (y : ℕ) × (word ≡ front ++ y ∷ [])) → (c ∷ word ≡ []) ⊎ ((front : List ℕ) × (y : ℕ) × (c ∷ word ≡ front ++ y ∷ []))
    go (inl e) = inr ([], c, ap (λ (w : List ℕ). c ∷ w) e)
    go (inr t) = inr (c ∷ t.0, t.1, ap (λ (w : List ℕ). c ∷ w) t.2)

module _ (g : Grammar) where
  last_front : (u v : List Symbol) (y : ℕ) → IsLast g u y → IsNullable g v → IsLast g (u ++ v) y
  last_front u v y h n =
      (h.0 ++ n.0, h.1, subst (λ (w : List ℕ). Derives g (u ++ v) (h.0 ++ n.0) (word_form w)) (append-nil (h.1 ++ y ∷ [])) (derives_both g u v h.0 n.0 (h.1 ++ y ∷ []) [] h.2 n.1))

  last_more : (u v : List Symbol) (y : ℕ) (ps w : List ℕ) → Derives g u ps (word_form w) → IsLast g v y → IsLast g (u ++ v) y
  last_more u v y ps w d h =
      (ps ++ h.0, w ++ h.1, subst (λ (x : List ℕ). Derives g (u ++ v) (ps ++ h.0) (word_form x)) (sym (append_assoc w h.1 (y ∷ []))) (derives_both g u v ps h.0 w (h.1 ++ y ∷ []) d h.2))

  last_rule : (p a y : ℕ) (r : List Symbol) → Rule g p a r → IsLast g r y → IsLast g (Nonterminal a ∷ []) y
  last_rule p a y r rule h = (p ∷ h.0, h.1, derives_step g p a r [] h.0 (word_form (h.1 ++ y ∷ [])) rule (subst (λ (f : List Symbol). Derives g f h.0 (word_form (h.1 ++ y ∷ []))) (sym (append-nil r)) h.2))

  abbrev pub Last : ℕ → ℕ → Type 0
  Last y a = IsLast g (Nonterminal a ∷ []) y

  -- ---- forms that pass are so

  module _ (well : IsWellFormed g) (reduced : IsReduced g) (nullable last : List Bool) (y : ℕ) (null : (a : ℕ) → get_or nullable a false ≡ true → Nullable g a) (sound : (a : ℕ) → get_or last a false ≡ true → Last y a) where
    pub finishing : (u : List Symbol) → Ours g u → finishes nullable last y u ≡ true → IsLast g u y
    finishing [] o h = absurd (cc)
    finishing (s ∷ u) o h = go (λ k. finishing u o.1 k) (either (starts last y s && all_vanish nullable u) (finishes nullable last y u) h)
      where
        here : (t : Symbol) → starts last y t ≡ true → IsNullable g u → IsLast g (t ∷ u) y
        here (Terminal a) k n = (n.0, [], derives_terminal g a u n.0 [] n.1 ∙ ap (λ (c : ℕ). Some (Terminal c ∷ [])) (eqb-true a y k))
        here (Nonterminal a) k n = last_front (Nonterminal a ∷ []) u y (sound a k) n

        go : (finishes nullable last y u ≡ true → IsLast g u y) → ((starts last y s && all_vanish nullable u) ≡ true) ⊎ (finishes nullable last y u ≡ true) → IsLast g (s ∷ u) y
        go more (inl k) = let t = both (starts last y s) (all_vanish nullable u) k in here s t.0 (vanishing g nullable null u t.1)
        go more (inr k) = let w = word_of g well reduced.0 (s ∷ []) (o.0, tt) in last_more (s ∷ []) u y w.0 w.1 w.2 (more k)

  -- ---- and forms that are so pass, where the marks are closed under the rules

  module _ (nullable : List Bool) (are : AreMarksOf g (Nullable g) nullable) (last : List Bool) (y : ℕ) (closed : (p a : ℕ) (r : List Symbol) → Rule g p a r → finishes nullable last y r ≡ true → get_or last a false ≡ true) where
    abbrev Finishes : List ℕ → Type 0
    Finishes ps = (u : List Symbol) (w : List ℕ) → Derives g u ps (word_form (w ++ y ∷ [])) → finishes nullable last y u ≡ true

    finishes_terminal : (ps : List ℕ) (c : ℕ) (u : List Symbol) → ((w : List ℕ) → Derives g u ps (word_form (w ++ y ∷ [])) → finishes nullable last y u ≡ true) → (w : List ℕ) → Derives g (Terminal c ∷ u) ps (word_form (w ++ y ∷ [])) → finishes nullable last y (Terminal c ∷ u) ≡ true
    finishes_terminal ps c u ih w d = let b = behind_terminal g c u ps (word_form (w ++ y ∷ [])) d in by w b.0 b.1 b.2
      where
        by : (w : List ℕ) (v : List Symbol) → word_form (w ++ y ∷ []) ≡ Terminal c ∷ v → Derives g u ps v → finishes nullable last y (Terminal c ∷ u) ≡ true
        by [] v e k =
            or_left ((c == y) && all_vanish nullable u) (finishes nullable last y u)
            (and (c == y) (all_vanish nullable u) (eq-eqb c y (sym (same_terminal (same_head e)))) (vanishes_exactly g nullable are u (ps, subst (λ (f : List Symbol). Derives g u ps f) (sym (same_tail e)) k)))
        by (d ∷ w) v e k = or_right ((c == y) && all_vanish nullable u) (finishes nullable last y u) (ih w (subst (λ (f : List Symbol). Derives g u ps f) (sym (same_tail e)) k))

    no_end : (w : List ℕ) → word_form (w ++ y ∷ []) ≡ [] → ⊥
    no_end [] e = nil-cons (sym e)
    no_end (c ∷ w) e = nil-cons (sym e)

    finishes_none : Finishes []
    finishes_none [] w d = absurd (no_end w (sym (same_Some _ _ d)))
    finishes_none (Terminal c ∷ u) w d = finishes_terminal [] c u (finishes_none u) w d
    finishes_none (Nonterminal a ∷ u) w d = absurd (nonterminal-word a u (w ++ y ∷ []) (same_Some _ _ d))

    finishes_next : (p : ℕ) (ps : List ℕ) → Finishes ps → Finishes (p ∷ ps)
    finishes_next p ps ih [] w d = absurd (nil-cons (sym (derives_nil g (p ∷ ps) (word_form (w ++ y ∷ [])) d).0))
    finishes_next p ps ih (Terminal c ∷ u) w d = finishes_terminal (p ∷ ps) c u (finishes_next p ps ih u) w d
    finishes_next p ps ih (Nonterminal a ∷ u) w d =
        let s = first_step g p a u ps (word_form (w ++ y ∷ [])) d in
        go s.0 s.1 (either (finishes nullable last y s.0 && all_vanish nullable u) (finishes nullable last y u) (sym (finishes-append nullable last y s.0 u) ∙ ih (s.0 ++ u) w s.2))
      where
        go : (r : List Symbol) → Rule g p a r → ((finishes nullable last y r && all_vanish nullable u) ≡ true) ⊎ (finishes nullable last y u ≡ true) → finishes nullable last y (Nonterminal a ∷ u) ≡ true
        go r rule (inl k) =
            let t = both (finishes nullable last y r) (all_vanish nullable u) k in
            or_left (get_or last a false && all_vanish nullable u) (finishes nullable last y u) (and (get_or last a false) (all_vanish nullable u) (closed p a r rule t.0) t.1)
        go r rule (inr k) = or_right (get_or last a false && all_vanish nullable u) (finishes nullable last y u) k

    finishes_all : (ps : List ℕ) → Finishes ps
    finishes_all [] = finishes_none
    finishes_all (p ∷ ps) = finishes_next p ps (finishes_all ps)

    pub last_finishes : (u : List Symbol) → IsLast g u y → finishes nullable last y u ≡ true
    last_finishes u h = finishes_all h.0 u h.1 h.2

  -- ---- marks that are sound and complete

  module _ (nullable : List Bool) (are : AreMarksOf g (Nullable g) nullable) (y : ℕ) where
    pub last_marked : (marks : List Bool) → IsClosedBy (finishes nullable marks y) g.productions marks → (a : ℕ) → Last y a → get_or marks a false ≡ true
    last_marked marks closed a h = go (either (get_or marks a false && true) false (last_finishes nullable are marks y (closed_by g (finishes nullable marks y) marks closed) (Nonterminal a ∷ []) h))
      where
        go : ((get_or marks a false && true) ≡ true) ⊎ (false ≡ true) → get_or marks a false ≡ true
        go (inl k) = (both (get_or marks a false) true k).0
        go (inr k) = absurd (cc)

    pub last_turn : IsWellFormed g → IsReduced g → (marks : List Bool) (a : ℕ) → length marks ≡ length g.nonterminals → ((x : ℕ) → get_or marks x false ≡ true → Last y x) → IsNextBy (finishes nullable marks y) g.productions marks a → IsTurn (Last y) marks a
    last_turn well reduced marks a len sound next =
        marking_turn (Last y) marks a (length g.nonterminals) len (subst (λ n. n < length g.nonterminals) next.left_is (well.lefts (suc next.place) next.rule next.rule_is)) next.is_new
        (last_rule (suc next.place) a y next.rule.right (rule_of g next.place next.rule a next.rule_is next.left_is)
        (finishing well reduced nullable marks y are.sound sound next.rule.right (well.symbols (suc next.place) next.rule next.rule_is) next.right_is)) sound

    module _ (last : List Bool) (lasts : AreMarksOf g (Last y) last) (well : IsWellFormed g) (reduced : IsReduced g) where
      pub ending_is : (z : ℕ) (u : List Symbol) → Ours g u → is_ending nullable last z y u ≡ true → IsEnding g u z y
      ending_is z u o h = go (either (finishes nullable last y u) ((z == y) && all_vanish nullable u) h)
        where
          go : (finishes nullable last y u ≡ true) ⊎ (((z == y) && all_vanish nullable u) ≡ true) → IsEnding g u z y
          go (inl k) = let l = finishing well reduced nullable last y are.sound lasts.sound u o k in (l.0, l.1 ++ y ∷ [], l.2, last_of_word z l.1 y)
          go (inr k) = let t = both (z == y) (all_vanish nullable u) k in let n = vanishing g nullable are.sound u t.1 in (n.0, [], n.1, eqb-true z y t.0)

      last_closed : (p a : ℕ) (r : List Symbol) → Rule g p a r → finishes nullable last y r ≡ true → get_or last a false ≡ true
      last_closed p a r rule h = lasts.complete a (last_rule p a y r rule (finishing well reduced nullable last y are.sound lasts.sound r (well.symbols p (record { left = a; right = r }) rule) h))

      pub ending_tests : (z : ℕ) (u : List Symbol) → IsEnding g u z y → is_ending nullable last z y u ≡ true
      ending_tests z u (ps, word, d, is) = go (word_end word)
        where
          go : (word ≡ []) ⊎ ((front : List ℕ) × (c : ℕ) × (word ≡ front ++ c ∷ [])) → is_ending nullable last z y u ≡ true
          go (inl e) =
              let z_is : z ≡ y = sym (ap (last_behind z) e) ∙ is in
              or_right (finishes nullable last y u) ((z == y) && all_vanish nullable u)
              (and (z == y) (all_vanish nullable u) (eq-eqb z y z_is) (vanishes_exactly g nullable are u (ps, subst (λ (w : List ℕ). Derives g u ps (word_form w)) e d)))
          go (inr t) =
              let c_is : t.1 ≡ y = sym (ap (last_behind z) t.2 ∙ last_of_word z t.0 t.1) ∙ is in
              or_left (finishes nullable last y u) ((z == y) && all_vanish nullable u)
              (last_finishes nullable are last y last_closed u (ps, t.0, subst (λ (w : List ℕ). Derives g u ps (word_form w)) (t.2 ∙ ap (λ (c : ℕ). t.0 ++ c ∷ []) c_is) d))
