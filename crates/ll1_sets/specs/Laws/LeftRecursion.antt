-- A reduced LL(1) grammar has no left recursion.
use Rattle.std.proofs.Common.{◌≡◌, ℕ, ◌≤◌, List, [], ◌∷◌, ◌++◌, length, Some, refl, sym, ap, ◌∙◌, subst, append_assoc, arith, length-append}
use Rattle.std.proofs.lemmas.Option.{same_Some}
use Rattle.grammar_file.specs.declared.symbols.Symbol.{Symbol}
use Rattle.grammar_file.specs.declared.symbols.Symbol.TheVariants.{Terminal, Nonterminal}
use Rattle.grammar_file.specs.Grammar.{Grammar, production, end_mark, whole, IsWellFormed}
use Rattle.grammar_file.specs.Derivation.{Derives, word_form}
use Rattle.grammar_file.specs.Spelling.{IsReachable, start_is, right_is, IsReduced}
use Rattle.grammar_file.specs.Drive.{Reads}
use Rattle.grammar_file.specs.Laws.Words.{same_head, nil-cons, terminal-nonterminal, word-append}
use Rattle.grammar_file.specs.Laws.Derives.{derives_nil, behind_terminal, first_step, derives_on, derives_word, derives_above, derives_split}
use Rattle.grammar_file.specs.Laws.Drives.{reads_first, reads_above, reads_below}
use Rattle.grammar_file.specs.Laws.LeftParse.{reads_end}
use Rattle.grammar_file.specs.Laws.Viable.{IsDerivable, AreRightsDerivable, rights_derivable, derivable_both, derivable_below}
use Rattle.ll1_sets.specs.Predict.{IsLl1, IsNotLeftRecursive}
use Rattle.ll1_sets.specs.Laws.Ll1.{IsReached, start_reached, reached_step, reads_same}

module _ (g : Grammar) where
  -- of a right side that derives a word, so does each beginning
  derivable_above : (u v : List Symbol) → IsDerivable g (u ++ v) → IsDerivable g u
  derivable_above u v h = let s = derives_split g h.0 u v h.1 h.2 in (s.ps1, s.w1, s.first)

  -- a derivation that comes to a nonterminal in front goes on the way of what that form reads
  pub reads_through : (c a : ℕ) (ps qs : List ℕ) (u w v : List Symbol) → Derives g u ps (Nonterminal a ∷ w) → Reads g c qs (Nonterminal a ∷ w) v → Reads g c (ps ++ qs) u v
  reads_through c a [] qs u w v d h = subst (λ s. Reads g c qs s v) (sym (same_Some _ _ d)) h
  reads_through c a (p ∷ ps) qs [] w v d h = absurd (nil-cons (sym (derives_nil g (p ∷ ps) _ d).1))
  reads_through c a (p ∷ ps) qs (Terminal b ∷ u) w v d h = absurd (terminal-nonterminal (sym (same_head (behind_terminal g b u (p ∷ ps) _ d).1)))
  reads_through c a (p ∷ ps) qs (Nonterminal b ∷ u) w v d h =
      let s = first_step g p b u ps _ d in
      (b, s.0, u, refl, s.1, reads_through c a ps qs (s.0 ++ u) w v s.2 h)

  derivable_through : AreRightsDerivable g → (a : ℕ) (ps : List ℕ) (u w : List Symbol) → Derives g u ps (Nonterminal a ∷ w) → IsDerivable g u → IsDerivable g (Nonterminal a ∷ w)
  derivable_through all a [] u w d h = subst (IsDerivable g) (same_Some _ _ d) h
  derivable_through all a (p ∷ ps) [] w d h = absurd (nil-cons (sym (derives_nil g (p ∷ ps) _ d).1))
  derivable_through all a (p ∷ ps) (Terminal b ∷ u) w d h = absurd (terminal-nonterminal (sym (same_head (behind_terminal g b u (p ∷ ps) _ d).1)))
  derivable_through all a (p ∷ ps) (Nonterminal b ∷ u) w d h =
      let s = first_step g p b u ps _ d in
      derivable_through all a ps (s.0 ++ u) w s.2 (derivable_both g s.0 u (all p b s.0 s.1) (derivable_below g (Nonterminal b ∷ []) u h))

  pub reached_word : (u rest : List Symbol) → IsDerivable g u → IsReached g (u ++ rest) → IsReached g rest
  reached_word u rest d h =
      let e : word_form h.1 ++ (word_form d.1 ++ rest) ≡ word_form (h.1 ++ d.1) ++ rest = sym (ap (λ f. f ++ rest) (word-append h.1 d.1) ∙ append_assoc (word_form h.1) (word_form d.1) rest) in
      let k = derives_on g (whole g) (word_form h.1 ++ (u ++ rest)) (word_form h.1 ++ (word_form d.1 ++ rest)) h.0 d.0 h.2 (derives_word g h.1 (u ++ rest) d.0 (word_form d.1 ++ rest) (derives_above g d.0 u (word_form d.1) rest d.2)) in
      (h.0 ++ d.0, h.1 ++ d.1, subst (Derives g (whole g) (h.0 ++ d.0)) e k)

  -- the nonterminal comes to the front of a form, and behind it stands what derives a word and then the end mark
  pub record InFront (a : ℕ) : Type 0 where
    pub top : List Symbol
    pub derivable : IsDerivable g top
    pub reached : IsReached g (Nonterminal a ∷ (top ++ Terminal (end_mark g) ∷ []))

  pub reachable_front : AreRightsDerivable g → (n : ℕ) → IsReachable g n → InFront n
  reachable_front all n start_is = record { top = []; derivable = ([], [], refl); reached = start_reached g }
  reachable_front all n (right_is p rule before after a r e f) =
      let i = reachable_front all rule.left r in
      let e' : production g p ≡ Some (record { left = rule.left; right = before ++ Nonterminal a ∷ after }) = e ∙ ap (λ x. Some (record { left = rule.left; right = x })) f in
      let d = all p rule.left (before ++ Nonterminal a ∷ after) e' in
      let below = i.top ++ Terminal (end_mark g) ∷ [] in
      let s = reached_step g p rule.left (before ++ Nonterminal a ∷ after) below e' i.reached in
      let t = reached_word before (Nonterminal a ∷ (after ++ below)) (derivable_above before (Nonterminal a ∷ after) d) (subst (IsReached g) (append_assoc before (Nonterminal a ∷ after) below) s) in
      record {
        top = after ++ i.top;
        derivable = derivable_both g after i.top (derivable_below g (before ++ Nonterminal a ∷ []) after (subst (IsDerivable g) (sym (append_assoc before (Nonterminal a ∷ []) after)) d)) i.derivable;
        reached = subst (λ x. IsReached g (Nonterminal a ∷ x)) (sym (append_assoc after i.top (Terminal (end_mark g) ∷ []))) t;
      }

  -- what derives a word, above the end mark, reads something
  pub reads_some : (e : ℕ) (top : List Symbol) → IsDerivable g top → (c : ℕ) × (ps : List ℕ) × (v : List Symbol) × Reads g c ps (top ++ Terminal e ∷ []) v
  reads_some e top (ps, w, d) = go w d
    where
      go : (w : List ℕ) → Derives g top ps (word_form w) → (c : ℕ) × (qs : List ℕ) × (v : List Symbol) × Reads g c qs (top ++ Terminal e ∷ []) v
      go [] d = (e, ps, [], reads_end g e ps top d)
      go (c ∷ w) d = let f = reads_first g c ps top (word_form w) d in (c, f.ps1, f.left ++ Terminal e ∷ [], reads_above g c f.ps1 top f.left (Terminal e ∷ []) f.reads)

  module _ (p a : ℕ) (ps : List ℕ) (rest : List Symbol) (d : Derives g (Nonterminal a ∷ []) (p ∷ ps) (Nonterminal a ∷ rest)) where
    round : (c : ℕ) (qs : List ℕ) (below v : List Symbol) → Reads g c qs (Nonterminal a ∷ (rest ++ below)) v → Reads g c ((p ∷ ps) ++ qs) (Nonterminal a ∷ below) v
    round c qs below v h = reads_through c a (p ∷ ps) qs (Nonterminal a ∷ below) (rest ++ below) v (derives_above g (p ∷ ps) (Nonterminal a ∷ []) (Nonterminal a ∷ rest) below d) h

    clash : IsLl1 g → (c : ℕ) (qs rs : List ℕ) (stack v u : List Symbol) → IsReached g stack → Reads g c qs stack v → Reads g c ((p ∷ ps) ++ rs) stack u → length qs ≤ length rs → ⊥
    clash ll c qs rs stack v u t h k l =
        let e = ap length (reads_same g ll c qs ((p ∷ ps) ++ rs) stack v u t h k).0 in
        omega (arith, length-append ps rs)

    no_round : IsLl1 g → AreRightsDerivable g → IsDerivable g (Nonterminal a ∷ []) → InFront a → ⊥
    no_round ll all (pa, ya, da) t = go ya da
      where
        below : List Symbol
        below = t.top ++ Terminal (end_mark g) ∷ []

        of_rest : (pr yr : List ℕ) → Derives g (Nonterminal a ∷ []) pa [] → Derives g rest pr (word_form yr) → ⊥
        of_rest pr [] n dr =
            let s = reads_some (end_mark g) t.top t.derivable in
            let one = reads_below g s.0 pa s.1 (Nonterminal a ∷ []) below s.2 n s.3 in
            let more = reads_below g s.0 pa (pr ++ s.1) (Nonterminal a ∷ []) (rest ++ below) s.2 n (reads_below g s.0 pr s.1 rest below s.2 dr s.3) in
            clash ll s.0 (pa ++ s.1) (pa ++ (pr ++ s.1)) (Nonterminal a ∷ below) s.2 s.2 t.reached one (round s.0 (pa ++ (pr ++ s.1)) below s.2 more) (omega (arith, length-append pa s.1, length-append pa (pr ++ s.1), length-append pr s.1))
        of_rest pr (c ∷ yr) n dr =
            let f = reads_first g c pr rest (word_form yr) dr in
            let one = round c (pa ++ f.ps1) below _ (reads_below g c pa f.ps1 (Nonterminal a ∷ []) (rest ++ below) _ n (reads_above g c f.ps1 rest f.left below f.reads)) in
            let more = round c ((p ∷ ps) ++ (pa ++ f.ps1)) below _ (round c (pa ++ f.ps1) (rest ++ below) _ (reads_below g c pa f.ps1 (Nonterminal a ∷ []) (rest ++ (rest ++ below)) _ n (reads_above g c f.ps1 rest f.left (rest ++ below) f.reads))) in
            clash ll c ((p ∷ ps) ++ (pa ++ f.ps1)) ((p ∷ ps) ++ (pa ++ f.ps1)) (Nonterminal a ∷ below) _ _ t.reached one more (omega arith)

        go : (ya : List ℕ) → Derives g (Nonterminal a ∷ []) pa (word_form ya) → ⊥
        go [] n =
            let r = derivable_below g (Nonterminal a ∷ []) rest (derivable_through all a (p ∷ ps) (Nonterminal a ∷ []) rest d (pa, [], n)) in
            of_rest r.0 r.1 n r.2
        go (c ∷ y) h =
            let f = reads_first g c pa (Nonterminal a ∷ []) (word_form y) h in
            let one = reads_above g c f.ps1 (Nonterminal a ∷ []) f.left below f.reads in
            let more = round c f.ps1 below _ (reads_above g c f.ps1 (Nonterminal a ∷ []) f.left (rest ++ below) f.reads) in
            clash ll c f.ps1 f.ps1 (Nonterminal a ∷ below) _ _ t.reached one more (omega arith)

  pub not_left_recursive : IsLl1 g → IsWellFormed g → IsReduced g → IsNotLeftRecursive g
  not_left_recursive ll wf reduced a h =
      let s = first_step g h.0 a [] h.1 (Nonterminal a ∷ h.2) h.3 in
      let l = wf.lefts h.0 _ s.1 in
      let all = rights_derivable g wf reduced.0 in
      no_round h.0 a h.1 h.2 h.3 ll all (reduced.0 a l) (reachable_front all a (reduced.1 a l))
