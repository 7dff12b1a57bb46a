-- What a nonterminal leaves on the stack once it has read a terminal: what derives nothing is passed over.
use Rattle.std.proofs.Common.{◌≡◌, ◌∙◌, ◌⊎◌, inl, inr, ℕ, List, [], ◌∷◌, ◌++◌, Bool, true, false, Option, Some, None, get_or, if◌then◌else◌, refl, sym, ap, subst, append_assoc}
use Rattle.std.proofs.lemmas.Bool.{true≢false}
use Rattle.std.proofs.lemmas.Option.{none-some, same_Some}
use Rattle.grammar_file.specs.declared.symbols.Symbol.{Symbol}
use Rattle.grammar_file.specs.declared.symbols.Symbol.TheVariants.{Terminal, Nonterminal}
use Rattle.grammar_file.specs.Grammar.{Grammar, Production, production}
use Rattle.grammar_file.specs.Drive.{Reads, Rule}
use Rattle.grammar_file.specs.Laws.Derives.{same_rule}
use Rattle.grammar_file.specs.Laws.Drives.{Above, Below, reads_above, reads_apart, reads_derives, no_reads}
use Rattle.grammar_file.specs.Laws.Words.{same_head, same_tail, same_nonterminal, terminal-nonterminal}
use Rattle.ll1_sets.specs.Laws.LeftRecursion.{reached_word}
use Rattle.ll1_sets.specs.Laws.Ll1.{IsReached, reached_step, predicts}
use Rattle.ll1_sets.specs.Predict.{IsLl1, IsPredicted}
use Rattle.table_text.specs.Ahead.{AreSetsAhead, IsLeftBy, LeadsTo, behind_unmarked}

module _ (g : Grammar) (b : ℕ) (first : List Bool) (predictions : List (Option ℕ)) (sets : AreSetsAhead g b first predictions) where
  -- with a nonterminal on top with which b doesn't begin, what stands below it does
  passed : (a : ℕ) (stack below left : List Symbol) (ps : List ℕ) → get_or first a false ≡ false → IsReached g (Nonterminal a ∷ (stack ++ below)) → Reads g b ps (Nonterminal a ∷ stack) left
      → (qs : List ℕ) × Reads g b qs stack left × IsReached g (stack ++ below)
  passed a stack below left ps unmarked reached reads = go (reads_apart g b ps (Nonterminal a ∷ []) stack left reads)
    where
      go : Above g b ps (Nonterminal a ∷ []) stack left ⊎ Below g b ps (Nonterminal a ∷ []) stack left → (qs : List ℕ) × Reads g b qs stack left × IsReached g (stack ++ below)
      go (inl x) = absurd (true≢false (sym (sets.0.complete a (ps, x.opens, reads_derives g b ps (Nonterminal a ∷ []) x.opens x.reads)) ∙ unmarked))
      go (inr y) = (y.ps2, y.reads, reached_word g (Nonterminal a ∷ []) (stack ++ below) (y.ps1, [], y.nothing) reached)

  all_passed : (stack below left : List Symbol) (ps : List ℕ) → IsReached g (stack ++ below) → Reads g b ps stack left
      → (qs : List ℕ) × Reads g b qs (behind_unmarked first stack) left × IsReached g (behind_unmarked first stack ++ below)
  all_passed [] below left ps k h = (ps, h, k)
  all_passed (Terminal c ∷ stack) below left ps k h = (ps, h, k)
  all_passed (Nonterminal a ∷ stack) below left ps k h = go (get_or first a false) refl (all_passed stack below left)
    where
      go : (m : Bool) → get_or first a false ≡ m
          → ((qs : List ℕ) → IsReached g (stack ++ below) → Reads g b qs stack left → (rs : List ℕ) × Reads g b rs (behind_unmarked first stack) left × IsReached g (behind_unmarked first stack ++ below))
          → (rs : List ℕ) × Reads g b rs (if m then Nonterminal a ∷ stack else behind_unmarked first stack) left × IsReached g ((if m then Nonterminal a ∷ stack else behind_unmarked first stack) ++ below)
      go true e next = (ps, h, k)
      go false e next = let s = passed a stack below left ps e k h in next s.0 s.2 s.1

  -- a nonterminal on top is read by the production that b predicts
  predicted_one : (a q : ℕ) (stack below left : List Symbol) (qs : List ℕ) → IsReached g (Nonterminal a ∷ (stack ++ below)) → Reads g b (q ∷ qs) (Nonterminal a ∷ stack) left
      → (right : List Symbol) × Rule g q a right × Reads g b qs (right ++ stack) left × IsPredicted g a q b
  predicted_one a q stack below left qs k h =
      let used : Rule g q a h.1 = subst (λ (n : ℕ). Rule g q n h.1) (sym (same_nonterminal (same_head h.3))) h.4 in
      let reads : Reads g b qs (h.1 ++ stack) left = subst (λ (f : List Symbol). Reads g b qs (h.1 ++ f) left) (sym (same_tail h.3)) h.5 in
      let above : Reads g b qs (h.1 ++ (stack ++ below)) (left ++ below) = subst (λ (f : List Symbol). Reads g b qs f (left ++ below)) (append_assoc h.1 stack below) (reads_above g b qs (h.1 ++ stack) left below reads) in
      (h.1, used, reads, predicts g q a b h.1 (stack ++ below) qs (left ++ below) k used above)

  taken : IsLl1 g → (p a : ℕ) (rule : Production) (stack below left : List Symbol) (qs : List ℕ) → get_or predictions a None ≡ Some p → production g p ≡ Some rule
      → IsReached g (Nonterminal a ∷ (stack ++ below)) → Reads g b qs (Nonterminal a ∷ stack) left → (rs : List ℕ) × Reads g b rs (rule.right ++ stack) left × IsReached g ((rule.right ++ stack) ++ below)
  taken ll1 p a rule stack below left [] at is k h = absurd (terminal-nonterminal (sym (same_head h)))
  taken ll1 p a rule stack below left (q ∷ qs) at is k h =
      let one = predicted_one a q stack below left qs k h in
      let sound = sets.1.sound a p at in
      let same : q ≡ p = ll1 a q p b one.3 sound in
      let left_is : rule.left ≡ a = ap (λ (r : Production). r.left) (same_Some rule sound.0 (sym is ∙ sound.1)) ∙ sound.2 in
      let rule_is : Rule g p a rule.right = is ∙ ap (λ (n : ℕ). Some (record { left = n; right = rule.right })) left_is in
      let right : one.0 ≡ rule.right = (same_rule g p a a one.0 rule.right (subst (λ (n : ℕ). Rule g n a one.0) same one.1) rule_is).1 in
      (qs, subst (λ (r : List Symbol). Reads g b qs (r ++ stack) left) right one.2, subst (IsReached g) (sym (append_assoc rule.right stack below)) (reached_step g p a rule.right (stack ++ below) rule_is k))

  never_predicted : (a : ℕ) (stack below left : List Symbol) (qs : List ℕ) → ((p : ℕ) → get_or predictions a None ≡ Some p → production g p ≡ None)
      → IsReached g (Nonterminal a ∷ (stack ++ below)) → Reads g b qs (Nonterminal a ∷ stack) left → ⊥
  never_predicted a stack below left [] none k h = terminal-nonterminal (sym (same_head h))
  never_predicted a stack below left (q ∷ qs) none k h =
      let one = predicted_one a q stack below left qs k h in
      let p = sets.1.complete a q one.3 in
      let sound = sets.1.sound a p.0 p.1 in
      none-some sound.0 (sym (none p.0 p.1) ∙ sound.1)

  -- a terminal on top is b
  ends : (c : ℕ) (stack left : List Symbol) (qs : List ℕ) → Reads g b qs (Terminal c ∷ stack) left → left ≡ stack
  ends c stack left [] h = sym (same_tail h)
  ends c stack left (q ∷ qs) h = absurd (terminal-nonterminal (same_head h.3))

module _ (g : Grammar) (first : List Bool) (predictions : List (Option ℕ)) (a : ℕ) where
  pub leads_start : LeadsTo g first predictions a (Nonterminal a ∷ [])
  leads_start b ll1 sets ps below left reached reads = (ps, reads, reached)

  module _ (stack : List Symbol) (h : LeadsTo g first predictions a stack) where
    -- b comes next on the stack without what is passed over
    next : LeadsTo g first predictions a (behind_unmarked first stack)
    next b ll1 sets ps below left reached reads =
        let r = h b ll1 sets ps below left reached reads in all_passed g b first predictions sets stack below left r.0 r.2 r.1

    pub leads_on : (n p : ℕ) (rule : Production) (rest new : List Symbol) → behind_unmarked first stack ≡ Nonterminal n ∷ rest → get_or predictions n None ≡ Some p → production g p ≡ Some rule
        → new ≡ rule.right ++ rest → LeadsTo g first predictions a new
    leads_on n p rule rest new front at is grown b ll1 sets ps below left reached reads =
        let r = subst (λ (s : List Symbol). LeadsTo g first predictions a s) front next b ll1 sets ps below left reached reads in
        subst (λ (s : List Symbol). (qs : List ℕ) × Reads g b qs s left × IsReached g (s ++ below)) (sym grown) (taken g b first predictions sets ll1 p n rule rest below left r.0 at is r.2 r.1)

    pub leads_nowhere : (n : ℕ) (rest opens : List Symbol) → behind_unmarked first stack ≡ Nonterminal n ∷ rest → ((p : ℕ) → get_or predictions n None ≡ Some p → production g p ≡ None) → IsLeftBy g first predictions a opens
    leads_nowhere n rest opens front none b ll1 sets ps below left reached reads =
        let r = subst (λ (s : List Symbol). LeadsTo g first predictions a s) front next b ll1 sets ps below left reached reads in
        absurd (never_predicted g b first predictions sets n rest below left r.0 none r.2 r.1)

    pub leads_home : (opens : List Symbol) → ((behind_unmarked first stack ≡ []) × (opens ≡ [])) ⊎ ((c : ℕ) × (behind_unmarked first stack ≡ Terminal c ∷ opens)) → IsLeftBy g first predictions a opens
    leads_home opens (inl e) b ll1 sets ps below left reached reads =
        let r = subst (λ (s : List Symbol). LeadsTo g first predictions a s) e.0 next b ll1 sets ps below left reached reads in absurd (no_reads g b r.0 left r.1)
    leads_home opens (inr (c, e)) b ll1 sets ps below left reached reads =
        let r = subst (λ (s : List Symbol). LeadsTo g first predictions a s) e next b ll1 sets ps below left reached reads in ends g b first predictions sets c opens left r.0 r.1
