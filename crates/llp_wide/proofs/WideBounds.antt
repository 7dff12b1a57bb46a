-- The terminals that can be matched.
use Rattle.std.proofs.Common.{◌≡◌, ℕ, ◌+◌, ◌<◌, inl, inr, List, [], ◌∷◌, ◌++◌, length, Some, sym, subst, arith}
use Rattle.std.specs.List.{AllByRecursion}
use Rattle.std.proofs.lemmas.Option.{same_Some}
use Rattle.grammar_file.specs.declared.symbols.Symbol.{Symbol}
use Rattle.grammar_file.specs.declared.symbols.Symbol.TheVariants.{Terminal, Nonterminal}
use Rattle.grammar_file.specs.Grammar.{Grammar, Production, production, end_mark, IsSymbol, IsWellFormed}
use Rattle.grammar_file.specs.Derivation.{Derives, word_form}
use Rattle.grammar_file.specs.Laws.Derives.{behind_terminal, first_step, derives_nil}
use Rattle.grammar_file.specs.Laws.Words.{nil-cons}
use Rattle.ll1_sets.specs.Laws.BehindBounds.{all_left, all_right, all_both}
use Rattle.llp_wide.specs.Wide.{wide_whole}
use Rattle.llp_wide.specs.WideBehind.{last_behind, any_before, IsEntered, IsEnteredBy, IsWidePlace, WideBehind, here, through, of_start, of_begin}

module _ (g : Grammar) (well : IsWellFormed g) where
  -- a terminal of the grammar or a mark, or a nonterminal of it
  abbrev pub IsBounded : Symbol → Type 0
  IsBounded (Terminal a) = a < length g.terminals + 2
  IsBounded (Nonterminal a) = a < length g.nonterminals

  bounded : (form : List Symbol) → AllByRecursion (IsSymbol g) form → AllByRecursion IsBounded form
  bounded [] h = tt
  bounded (Terminal a ∷ form) h = let l = h.0.1 in (let k : a < length g.terminals + 2 = omega arith in k, bounded form h.1)
  bounded (Nonterminal a ∷ form) h = (h.0, bounded form h.1)

  abbrev Keeps : List ℕ → Type 0
  Keeps ps = (u v : List Symbol) → AllByRecursion IsBounded u → Derives g u ps v → AllByRecursion IsBounded v

  keeps_terminal : (ps : List ℕ) (c : ℕ) (u : List Symbol) → ((v : List Symbol) → AllByRecursion IsBounded u → Derives g u ps v → AllByRecursion IsBounded v) → (v : List Symbol) → AllByRecursion IsBounded (Terminal c ∷ u) → Derives g (Terminal c ∷ u) ps v
      → AllByRecursion IsBounded v
  keeps_terminal ps c u ih v h d = let b = behind_terminal g c u ps v d in subst (AllByRecursion IsBounded) (sym b.1) (h.0, ih b.0 h.1 b.2)

  keeps_none : Keeps []
  keeps_none u v h d = subst (AllByRecursion IsBounded) (same_Some u v d) h

  keeps_next : (p : ℕ) (ps : List ℕ) → Keeps ps → Keeps (p ∷ ps)
  keeps_next p ps ih [] v h d = absurd (nil-cons (sym (derives_nil g (p ∷ ps) v d).0))
  keeps_next p ps ih (Terminal c ∷ u) v h d = keeps_terminal (p ∷ ps) c u (keeps_next p ps ih u) v h d
  keeps_next p ps ih (Nonterminal a ∷ u) v h d =
      let s = first_step g p a u ps v d in
      ih (s.0 ++ u) v (all_both IsBounded s.0 u (bounded s.0 (well.symbols p (record { left = a; right = s.0 }) s.1)) h.1) s.2

  keeps : (ps : List ℕ) → Keeps ps
  keeps [] = keeps_none
  keeps (p ∷ ps) = keeps_next p ps (keeps ps)

  last_bounded : (word : List ℕ) (z : ℕ) → z < length g.terminals + 2 → AllByRecursion IsBounded (word_form word) → last_behind z word < length g.terminals + 2
  last_bounded [] z l h = l
  last_bounded (c ∷ word) z l h = last_bounded word c h.0 h.1

  middle_bounded : (x : List ℕ) (z : ℕ) (rest : List Symbol) → AllByRecursion IsBounded (word_form (x ++ z ∷ []) ++ rest) → z < length g.terminals + 2
  middle_bounded [] z rest h = h.0
  middle_bounded (c ∷ x) z rest h = middle_bounded x z rest h.1

  entered_bounded : (z a : ℕ) (ps x : List ℕ) (rest : List Symbol) → Derives g (wide_whole g) ps (word_form (x ++ z ∷ []) ++ Nonterminal a ∷ rest) → AllByRecursion IsBounded (word_form (x ++ z ∷ []) ++ Nonterminal a ∷ rest)
  entered_bounded z a ps x rest d =
      let l : 0 < length g.terminals + 2 = omega arith in
      let m : end_mark g < length g.terminals + 2 = omega arith in
      keeps ps (wide_whole g) (word_form (x ++ z ∷ []) ++ Nonterminal a ∷ rest) (l, (l, (well.has_start, (m, tt)))) d

  pub entered_below : (z a : ℕ) → IsEntered g z a → z < length g.terminals + 2
  entered_below z a (ps, x, rest, d) = middle_bounded x z (Nonterminal a ∷ rest) (entered_bounded z a ps x rest d)

  pub entered_low : (z a : ℕ) → IsEntered g z a → a < length g.nonterminals
  entered_low z a (ps, x, rest, d) = (all_right IsBounded (word_form (x ++ z ∷ [])) (Nonterminal a ∷ rest) (entered_bounded z a ps x rest d)).0

  -- what is matched last before a nonterminal is no number that stands for any
  pub entered_not_any : (z a : ℕ) → IsEntered g z a → z ≡ any_before g → ⊥
  entered_not_any z a e is = let l = entered_below z a e in omega arith

  pub by_below : (z a : ℕ) → IsEnteredBy g z a → z < length g.terminals + 3
  by_below z a (inl e) = let l = entered_below z a e in omega arith
  by_below z a (inr (is, y, e)) = omega arith

  pub by_low : (z a : ℕ) → IsEnteredBy g z a → a < length g.nonterminals
  by_low z a (inl e) = entered_low z a e
  by_low z a (inr (is, y, e)) = entered_low y a e

  pub rights_ours : (p : ℕ) (rule : Production) → production g p ≡ Some rule → AllByRecursion (IsSymbol g) rule.right
  rights_ours p rule is = well.symbols p rule is

  pub place_below : (z0 owner z : ℕ) (s : Symbol) (after : List Symbol) → IsWidePlace g z0 owner z s after → z < length g.terminals + 2
  place_below z0 owner z s after place =
      let ours = subst (AllByRecursion (IsSymbol g)) place.right_is (well.symbols place.p place.rule place.rule_is) in
      let e = place.ending in
      subst (λ (n : ℕ). n < length g.terminals + 2) e.3
      (last_bounded e.1 z0 (entered_below z0 owner place.entered) (keeps e.0 place.before (word_form e.1) (bounded place.before (all_left (IsSymbol g) place.before (s ∷ after) ours)) e.2))

  pub place_symbol : (z0 owner z : ℕ) (s : Symbol) (after : List Symbol) → IsWidePlace g z0 owner z s after → IsSymbol g s
  place_symbol z0 owner z s after place = (all_right (IsSymbol g) place.before (s ∷ after) (subst (AllByRecursion (IsSymbol g)) place.right_is (well.symbols place.p place.rule place.rule_is))).0

  pub behind_below : (z : ℕ) (s : Symbol) (b : ℕ) (w : List Symbol) → WideBehind g z s b w → z < length g.terminals + 2
  behind_below _ _ _ _ (here z0 owner z s after beta rest b place parts begins) = place_below z0 owner z s after place
  behind_below _ _ _ _ (through z0 owner z s after beta b place vanish inner) = place_below z0 owner z s after place
  behind_below _ _ _ _ of_start = omega arith
  behind_below _ _ _ _ (of_begin beta rest b parts begins) = omega arith
