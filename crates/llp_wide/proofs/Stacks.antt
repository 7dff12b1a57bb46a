-- The stacks of a leftmost derivation of a text between two begin marks and an end mark.
use Rattle.std.proofs.Common.{◌≡◌, ℕ, List, [], ◌∷◌, ◌++◌, Some, sym, refl, ap, subst, append_assoc, append-nil}
use Rattle.grammar_file.specs.declared.symbols.Symbol.{Symbol}
use Rattle.grammar_file.specs.declared.symbols.Symbol.TheVariants.{Terminal, Nonterminal}
use Rattle.grammar_file.specs.Grammar.{Grammar, begin_mark, whole}
use Rattle.grammar_file.specs.Derivation.{Derives, word_form, FirstReaches}
use Rattle.grammar_file.specs.Drive.{Rule, Reads, Drives}
use Rattle.grammar_file.specs.Laws.Words.{same_head, same_tail, same_terminal, terminal-nonterminal, nil-cons, word-cons, nonterminal-word}
use Rattle.grammar_file.specs.Laws.Derives.{first_step, derives_nil, derives_terminal, behind_terminal, derives_step, derives_on}
use Rattle.grammar_file.specs.Laws.Drives.{drives_first, drives_on, drives_split, drives_derives, first_of_drives, drives_of_first}
use Rattle.llp_tables.specs.Lookback.{IsStackAfter}
use Rattle.llp_wide.specs.Wide.{wide_whole, IsWideStackAfter}
use Rattle.llp_wide.specs.WideBehind.{last_behind, IsEnding, IsEntered}

-- by the productions, nonterminals on top of the stack are replaced, and nothing is matched
abbrev pub Opens : Grammar → List ℕ → List Symbol → List Symbol → Type 0
Opens g [] stack v = stack ≡ v
Opens g (p ∷ ps) stack v = (a : ℕ) × (r rest : List Symbol) × (stack ≡ Nonterminal a ∷ rest) × Rule g p a r × Opens g ps (r ++ rest) v

module _ (g : Grammar) where
  pub opens_more : (ps : List ℕ) (stack : List Symbol) (p a : ℕ) (r u : List Symbol) → Opens g ps stack (Nonterminal a ∷ u) → Rule g p a r → Opens g (ps ++ p ∷ []) stack (r ++ u)
  opens_more [] stack p a r u h rule = (a, r, u, h, rule, refl)
  opens_more (q ∷ ps) stack p a r u h rule = (h.0, h.1, h.2, h.3, h.4, opens_more ps (h.1 ++ h.2) p a r u h.5 rule)

  pub opens_reads : (ps : List ℕ) (stack : List Symbol) (c : ℕ) (u : List Symbol) → Opens g ps stack (Terminal c ∷ u) → Reads g c ps stack u
  opens_reads [] stack c u h = h
  opens_reads (p ∷ ps) stack c u h = (h.0, h.1, h.2, h.3, h.4, opens_reads ps (h.1 ++ h.2) c u h.5)

  pub reads_opens : (ps : List ℕ) (stack : List Symbol) (c : ℕ) (u : List Symbol) → Reads g c ps stack u → Opens g ps stack (Terminal c ∷ u)
  reads_opens [] stack c u h = h
  reads_opens (p ∷ ps) stack c u h = (h.0, h.1, h.2, h.3, h.4, reads_opens ps (h.1 ++ h.2) c u h.5)

  pub opens_derives : (ps : List ℕ) (stack v : List Symbol) → Opens g ps stack v → Derives g stack ps v
  opens_derives [] stack v h = ap Some h
  opens_derives (p ∷ ps) stack v h =
      subst (λ (s : List Symbol). Derives g s (p ∷ ps) v) (sym h.3) (derives_step g p h.0 h.1 h.2 ps v h.4 (opens_derives ps (h.1 ++ h.2) v h.5))

  -- what leads to a nonterminal on top matches nothing
  pub derives_opens : (ps : List ℕ) (stack : List Symbol) (a : ℕ) (u : List Symbol) → Derives g stack ps (Nonterminal a ∷ u) → Opens g ps stack (Nonterminal a ∷ u)
  derives_opens [] stack a u d = (cc)
  derives_opens (p ∷ ps) [] a u d = absurd (nil-cons (sym (derives_nil g (p ∷ ps) (Nonterminal a ∷ u) d).1))
  derives_opens (p ∷ ps) (Terminal c ∷ stack) a u d = absurd (let b = behind_terminal g c stack (p ∷ ps) (Nonterminal a ∷ u) d in terminal-nonterminal (sym (same_head b.1)))
  derives_opens (p ∷ ps) (Nonterminal b ∷ stack) a u d =
      let s = first_step g p b stack ps (Nonterminal a ∷ u) d in
      (b, s.0, stack, refl, s.1, derives_opens ps (s.0 ++ stack) a u s.2)

  -- z is matched last, and then nonterminals on top are replaced, which leads to this stack
  pub record Stands (z : ℕ) (stack : List Symbol) : Type 0 where
    pub ps : List ℕ
    pub qs : List ℕ
    pub x : List ℕ
    pub after : List Symbol
    pub drives : Drives g (x ++ z ∷ []) ps (wide_whole g) after
    pub opens : Opens g qs after stack

  pub stands_first : Stands begin_mark (whole g)
  stands_first = record { ps = []; qs = []; x = []; after = whole g; drives = ([], [], whole g, refl, refl, (refl, refl)); opens = refl }

  pub stands_expand : (z a p : ℕ) (r u : List Symbol) → Stands z (Nonterminal a ∷ u) → Rule g p a r → Stands z (r ++ u)
  stands_expand z a p r u s rule = record { ps = s.ps; qs = s.qs ++ p ∷ []; x = s.x; after = s.after; drives = s.drives; opens = opens_more s.qs s.after p a r u s.opens rule }

  stands_drives : (z c : ℕ) (u : List Symbol) (s : Stands z (Terminal c ∷ u)) → Drives g ((s.x ++ z ∷ []) ++ c ∷ []) (s.ps ++ s.qs) (wide_whole g) u
  stands_drives z c u s = drives_on g (s.x ++ z ∷ []) (c ∷ []) s.ps s.qs (wide_whole g) s.after u s.drives (s.qs, [], u, sym (append-nil s.qs), opens_reads s.qs s.after c u s.opens, (refl, refl))

  pub stands_match : (z c : ℕ) (u : List Symbol) → Stands z (Terminal c ∷ u) → Stands c u
  stands_match z c u s = record { ps = s.ps ++ s.qs; qs = []; x = s.x ++ z ∷ []; after = u; drives = stands_drives z c u s; opens = refl }

  pub stands_after : (z c : ℕ) (u : List Symbol) → Stands z (Terminal c ∷ u) → IsWideStackAfter g z c u
  stands_after z c u s =
      (s.ps ++ s.qs, s.x, subst (λ (w : List ℕ). FirstReaches g (wide_whole g) (s.ps ++ s.qs) w u) (append_assoc s.x (z ∷ []) (c ∷ [])) (first_of_drives g ((s.x ++ z ∷ []) ++ c ∷ []) (s.ps ++ s.qs) (wide_whole g) u (stands_drives z c u s)))

  pub stands_before : (z c : ℕ) (u : List Symbol) → IsWideStackAfter g z c u → Stands z (Terminal c ∷ u)
  stands_before z c u (ps, x, reaches) =
      let d : Drives g (x ++ z ∷ c ∷ []) ps (wide_whole g) u = drives_of_first g (x ++ z ∷ c ∷ []) ps (wide_whole g) u reaches in
      let s = drives_split g (x ++ z ∷ []) (c ∷ []) ps (wide_whole g) u (subst (λ (w : List ℕ). Drives g w ps (wide_whole g) u) (sym (append_assoc x (z ∷ []) (c ∷ []))) d) in
      record { ps = s.ps1; qs = s.second.0; x = x; after = s.between; drives = s.first; opens = subst (λ (v : List Symbol). Opens g s.second.0 s.between (Terminal c ∷ v)) s.second.5.1 (reads_opens s.second.0 s.between c s.second.2 s.second.4) }

  -- ---- entrances

  pub entered_of_stands : (z a : ℕ) (u : List Symbol) → Stands z (Nonterminal a ∷ u) → IsEntered g z a
  entered_of_stands z a u s = (
    s.ps ++ s.qs,
    s.x,
    u,
    derives_on g (wide_whole g) (word_form (s.x ++ z ∷ []) ++ s.after) (word_form (s.x ++ z ∷ []) ++ Nonterminal a ∷ u) s.ps s.qs
        (drives_derives g (s.x ++ z ∷ []) s.ps (wide_whole g) s.after s.drives)
        (Rattle.grammar_file.specs.Laws.Derives.derives_word g (s.x ++ z ∷ []) s.after s.qs (Nonterminal a ∷ u) (opens_derives s.qs s.after (Nonterminal a ∷ u) s.opens)),
  )

  pub stands_of_entered : (z a : ℕ) → IsEntered g z a → (u : List Symbol) × Stands z (Nonterminal a ∷ u)
  stands_of_entered z a e =
      let f = drives_first g (e.1 ++ z ∷ []) e.0 (wide_whole g) (Nonterminal a ∷ e.2) e.3 in
      (e.2, record { ps = f.ps1; qs = f.ps2; x = e.1; after = f.left; drives = f.drives; opens = derives_opens f.ps2 f.left a e.2 f.derives })

  -- ---- what stands on top derives a word, which is matched

  abbrev Along : List ℕ → Type 0
  Along qs = (v : List Symbol) (word : List ℕ) (z : ℕ) (u : List Symbol) → Stands z (v ++ u) → Derives g v qs (word_form word) → Stands (last_behind z word) u

  along_none : Along []
  along_none [] [] z u s d = s
  along_none [] (c ∷ word) z u s d = absurd (cc)
  along_none (Terminal a ∷ v) word z u s d =
      let b = behind_terminal g a v [] (word_form word) d in
      let c = word-cons word a b.0 b.1 in
      subst (λ (w : List ℕ). Stands (last_behind z w) u) (sym c.1) (along_none v c.0 a u (stands_match z a (v ++ u) s) (subst (λ (f : List Symbol). Derives g v [] f) c.2 b.2))
  along_none (Nonterminal a ∷ v) word z u s d = absurd (nonterminal-word a v word (cc))

  along_next : (q : ℕ) (qs : List ℕ) → Along qs → Along (q ∷ qs)
  along_next q qs ih [] word z u s d = absurd (nil-cons (sym (derives_nil g (q ∷ qs) (word_form word) d).0))
  along_next q qs ih (Terminal a ∷ v) word z u s d =
      let b = behind_terminal g a v (q ∷ qs) (word_form word) d in
      let c = word-cons word a b.0 b.1 in
      subst (λ (w : List ℕ). Stands (last_behind z w) u) (sym c.1) (along_next q qs ih v c.0 a u (stands_match z a (v ++ u) s) (subst (λ (f : List Symbol). Derives g v (q ∷ qs) f) c.2 b.2))
  along_next q qs ih (Nonterminal a ∷ v) word z u s d =
      let t = first_step g q a v qs (word_form word) d in
      ih (t.0 ++ v) word z u (subst (Stands z) (sym (append_assoc t.0 v u)) (stands_expand z a q t.0 (v ++ u) s t.1)) t.2

  along : (qs : List ℕ) → Along qs
  along [] v word z u s d = along_none v word z u s d
  along (q ∷ qs) v word z u s d = along_next q qs (along qs) v word z u s d

  pub stands_ending : (z y : ℕ) (v u : List Symbol) → Stands z (v ++ u) → IsEnding g v z y → Stands y u
  stands_ending z y v u s e = subst (λ (n : ℕ). Stands n u) e.3 (along e.0 v e.1 z u s e.2)

  -- ---- one terminal of look-back

  -- the first mark is matched, and the rest goes on as for one begin mark
  pub behind_mark : (word ps : List ℕ) (u : List Symbol) (d : ℕ) → Drives g (d ∷ word) ps (wide_whole g) u → (d ≡ begin_mark) × Drives g word ps (whole g) u
  behind_mark word ps u d (ps1, ps2, m, cut_is, reads, drives) = by ps1 cut_is reads
    where
      by : (ps1 : List ℕ) → ps ≡ ps1 ++ ps2 → Reads g d ps1 (wide_whole g) m → (d ≡ begin_mark) × Drives g word ps (whole g) u
      by [] cut_is reads = (sym (same_terminal (same_head reads)), subst (λ (qs : List ℕ). Drives g word qs (whole g) u) (sym cut_is) (subst (λ (f : List Symbol). Drives g word ps2 f u) (sym (same_tail reads)) drives))
      by (p ∷ ps1) cut_is reads = absurd (terminal-nonterminal (same_head reads.3))

  without_first : (x : List ℕ) (z a : ℕ) → (d : ℕ) × (y : List ℕ) × (x ++ z ∷ a ∷ [] ≡ d ∷ (y ++ a ∷ []))
  without_first [] z a = (z, [], refl)
  without_first (d ∷ x) z a = (d, x ++ z ∷ [], ap (λ (w : List ℕ). d ∷ w) (sym (append_assoc x (z ∷ []) (a ∷ []))))

  pub after_second : (z a : ℕ) (u : List Symbol) → IsWideStackAfter g z a u → IsStackAfter g a u
  after_second z a u (ps, x, reaches) =
      let w = without_first x z a in
      let drives : Drives g (x ++ z ∷ a ∷ []) ps (wide_whole g) u = drives_of_first g (x ++ z ∷ a ∷ []) ps (wide_whole g) u reaches in
      let m = behind_mark (w.1 ++ a ∷ []) ps u w.0 (subst (λ (word : List ℕ). Drives g word ps (wide_whole g) u) w.2 drives) in
      (ps, w.1, first_of_drives g (w.1 ++ a ∷ []) ps (whole g) u m.1)
