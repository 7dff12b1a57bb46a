-- PSLS with two terminals of look-back by derivations and by rules are the same.
use Rattle.std.proofs.Common.{◌≡◌, ℕ, ⊎_elim, List, [], ◌∷◌, ◌++◌, Some, sym, refl, ap, ◌∙◌, subst, append_assoc, append-nil}
use Rattle.grammar_file.specs.declared.symbols.Symbol.{Symbol}
use Rattle.grammar_file.specs.declared.symbols.Symbol.TheVariants.{Terminal, Nonterminal}
use Rattle.grammar_file.specs.Grammar.{Grammar, begin_mark, end_mark, whole}
use Rattle.grammar_file.specs.Derivation.{Derives, word_form}
use Rattle.grammar_file.specs.Drive.{Rule, Drives, first_stack}
use Rattle.grammar_file.specs.Laws.Words.{same_head, same_tail, nil-cons, word-cons}
use Rattle.grammar_file.specs.Laws.Derives.{derives_step, derives_terminal, behind_terminal, derives_nil}
use Rattle.llp_tables.specs.Slots.{Slots, Empty, One, Two}
use Rattle.llp_tables.specs.LeastMembers.{KeepsLeast}
use Rattle.ll1_sets.specs.Behind.{BeginsAtLast}
use Rattle.llp_tables.specs.Lookback.{IsLookback, IsLlp}
use Rattle.ll1_sets.specs.Laws.BehindRules.{parted, begins-cut, begins-more, one_end, no_beta}
use Rattle.llp_wide.specs.Wide.{wide_whole, IsWideLookback, IsWideLlp}
use Rattle.llp_wide.specs.WideBehind.{last_behind, IsEnding, IsEntered, IsWidePlace, WideBehind, here, through, of_start, of_begin}
use Rattle.llp_wide.proofs.Stacks.{Opens, reads_opens, Stands, stands_first, stands_expand, stands_match, stands_after, stands_before, entered_of_stands, stands_of_entered, stands_ending, behind_mark, after_second}

module _ (g : Grammar) where
  pub within : (z a b : ℕ) (beta : List Symbol) → IsWideLookback g z a b beta → IsLookback g a b beta
  within z a b beta h = (h.0, after_second g z a (beta ++ h.0) h.1, h.2)

  pub wide_llp : IsLlp g → IsWideLlp g
  wide_llp llp z a b beta gamma h k = llp a b beta gamma (within z a b beta h) (within z a b gamma k)

  ending_opened : (z y p a : ℕ) (r more : List Symbol) → Rule g p a r → IsEnding g (r ++ more) z y → IsEnding g (Nonterminal a ∷ more) z y
  ending_opened z y p a r more rule e = (p ∷ e.0, e.1, derives_step g p a r more e.0 (word_form e.1) rule e.2, e.3)

  ending_matched : (z c y : ℕ) (front : List Symbol) → IsEnding g front c y → IsEnding g (Terminal c ∷ front) z y
  ending_matched z c y front e = (e.0, c ∷ e.1, derives_terminal g c front e.0 (word_form e.1) e.2, e.3)

  pub ending_none : (z y : ℕ) → IsEnding g [] z y → z ≡ y
  ending_none z y (ps, word, d, is) = by word (derives_nil g ps (word_form word) d).1 is
    where
      by : (word : List ℕ) → word_form word ≡ [] → last_behind z word ≡ y → z ≡ y
      by [] e is = is
      by (c ∷ word) e is = absurd (nil-cons (sym e))

  -- behind a begin mark alone nothing else is matched last
  pub ending_mark : (x : Symbol) (y : ℕ) → Terminal begin_mark ≡ x → IsEnding g (x ∷ []) begin_mark y → begin_mark ≡ y
  ending_mark x y is e =
      let e' : IsEnding g (Terminal begin_mark ∷ []) begin_mark y = subst (λ (t : Symbol). IsEnding g (t ∷ []) begin_mark y) (sym is) e in
      let k = behind_terminal g begin_mark [] e'.0 (word_form e'.1) e'.2 in
      let c = word-cons e'.1 begin_mark k.0 k.1 in
      ending_none begin_mark y (e'.0, c.0, subst (λ (f : List Symbol). Derives g [] e'.0 f) c.2 k.2, subst (λ (w : List ℕ). last_behind begin_mark w ≡ y) c.1 e'.3)

-- What stands behind the symbols of stacks: a relation on the terminal that is matched last before a symbol, the symbol, and what stands behind it
module _ (g : Grammar) (R : ℕ → Symbol → List Symbol → Type 0) where
  -- it holds of each symbol of the stack, where z is matched last
  abbrev pub Ruled : ℕ → List Symbol → Type 0
  Ruled z u = (front back : List Symbol) (s : Symbol) (y : ℕ) → u ≡ front ++ s ∷ back → IsEnding g front z y → R y s back

  module _ (first : Ruled begin_mark (whole g)) (expand : (z a p : ℕ) (r u front after : List Symbol) (s : Symbol) (y : ℕ) → IsEntered g z a → R z (Nonterminal a) u → Rule g p a r → r ≡ front ++ s ∷ after → IsEnding g front z y → R y s (after ++ u)) where
    ruled_expand : (z a p : ℕ) (r u : List Symbol) → Rule g p a r → IsEntered g z a → Ruled z (Nonterminal a ∷ u) → Ruled z (r ++ u)
    ruled_expand z a p r u rule entered ruled front back s y is ending =
        ⊎_elim
        (λ (t : (more : List Symbol) × (r ≡ front ++ more) × (s ∷ back ≡ more ++ u)). inner t.0 t.1 t.2)
        (λ (t : (x : Symbol) × (more : List Symbol) × (front ≡ r ++ x ∷ more) × (u ≡ (x ∷ more) ++ s ∷ back)).
        ruled (Nonterminal a ∷ t.0 ∷ t.1) back s y (ap (λ (f : List Symbol). Nonterminal a ∷ f) t.3) (ending_opened g z y p a r (t.0 ∷ t.1) rule (subst (λ (f : List Symbol). IsEnding g f z y) t.2 ending)))
        (parted r u front (s ∷ back) is)
      where
        inner : (more : List Symbol) → r ≡ front ++ more → s ∷ back ≡ more ++ u → R y s back
        inner [] right_is tail_is =
            ruled (Nonterminal a ∷ []) back s y (ap (λ (f : List Symbol). Nonterminal a ∷ f) (sym tail_is)) (ending_opened g z y p a r [] rule (subst (λ (f : List Symbol). IsEnding g f z y) (sym (append-nil r ∙ (right_is ∙ append-nil front))) ending))
        inner (x ∷ after) right_is tail_is =
            subst (R y s) (sym (same_tail tail_is)) (expand z a p r u front after s y entered (ruled [] u (Nonterminal a) z refl ([], [], refl, refl)) rule (right_is ∙ ap (λ (h : Symbol). front ++ h ∷ after) (sym (same_head tail_is))) ending)

    ruled_match : (z c : ℕ) (u : List Symbol) → Ruled z (Terminal c ∷ u) → Ruled c u
    ruled_match z c u ruled front back s y is ending = ruled (Terminal c ∷ front) back s y (ap (λ (f : List Symbol). Terminal c ∷ f) is) (ending_matched g z c y front ending)

    -- a stack that is reached, with the relation
    record Known (z : ℕ) (u : List Symbol) : Type 0 where
      pub stands : Stands g z u
      pub ruled : Ruled z u

    known_expand : (z p a : ℕ) (r rest : List Symbol) → Rule g p a r → Known z (Nonterminal a ∷ rest) → Known z (r ++ rest)
    known_expand z p a r rest rule k = record { stands = stands_expand g z a p r rest k.stands rule; ruled = ruled_expand z a p r rest rule (entered_of_stands g z a rest k.stands) k.ruled }

    known_opens : (ps : List ℕ) (z : ℕ) (u v : List Symbol) → Known z u → Opens g ps u v → Known z v
    known_opens [] z u v k h = subst (Known z) h k
    known_opens (p ∷ ps) z u v k h = known_opens ps z (h.1 ++ h.2) v (known_expand z p h.0 h.1 h.2 h.4 (subst (Known z) h.3 k)) h.5

    along : (word ps : List ℕ) (t : ℕ) (u v : List Symbol) → Known t u → Drives g word ps u v → Known (last_behind t word) v
    along [] ps t u v k d = subst (Known t) d.1 k
    along (c ∷ word) ps t u v k (ps1, ps2, m, cut_is, reads, drives) =
        let top = known_opens ps1 t u (Terminal c ∷ m) k (reads_opens g ps1 u c m reads) in
        along word ps2 c m v (record { stands = stands_match g t c m top.stands; ruled = ruled_match t c m top.ruled }) drives

    first_is : (x : List ℕ) (z : ℕ) → (d : ℕ) × (word : List ℕ) × (x ++ z ∷ [] ≡ d ∷ word) × (last_behind d word ≡ z)
    first_is [] z = (z, [], refl, refl)
    first_is (d ∷ x) z = (d, x ++ z ∷ [], refl, last_at d x z)
      where
        last_at : (d : ℕ) (x : List ℕ) (z : ℕ) → last_behind d (x ++ z ∷ []) ≡ z
        last_at d [] z = refl
        last_at d (c ∷ x) z = last_at c x z

    -- it holds of each stack that is reached
    pub ruled_stands : (z : ℕ) (u : List Symbol) → Stands g z u → Ruled z u
    ruled_stands z u s =
        let w = first_is s.x z in
        let m = behind_mark g w.1 s.ps s.after w.0 (subst (λ (word : List ℕ). Drives g word s.ps (wide_whole g) s.after) w.2 s.drives) in
        let k = along w.1 s.ps w.0 (whole g) s.after (subst (λ (d : ℕ). Known d (whole g)) (sym m.0) (record { stands = stands_first g; ruled = first })) m.1 in
        (known_opens s.qs z s.after u (subst (λ (n : ℕ). Known n s.after) w.3 k) s.opens).ruled

module _ (g : Grammar) where
  -- ---- by derivations, then by rules

  abbrev IsBehind : ℕ → Symbol → List Symbol → Type 0
  IsBehind y s back = (beta rest : List Symbol) (b : ℕ) → back ≡ beta ++ rest → BeginsAtLast g beta b → WideBehind g y s b beta

  behind_first : Ruled g IsBehind begin_mark (whole g)
  behind_first [] back s y is ending beta rest b parts begins =
      let top : Terminal begin_mark ≡ s = same_head is in
      let z_is : begin_mark ≡ y = ending_none g begin_mark y ending in
      subst (λ (t : ℕ × Symbol). WideBehind g t.0 t.1 b beta) (λ i. (z_is i, top i)) (of_begin beta rest b (same_tail is ∙ parts) begins)
  behind_first (x ∷ []) back s y is ending beta rest b parts begins =
      let top : Nonterminal 0 ≡ s = same_head (same_tail is) in
      let o = one_end g beta rest b (same_tail (same_tail is) ∙ parts) begins in
      let z_is : begin_mark ≡ y = ending_mark g x y (same_head is) ending in
      subst (λ (t : ℕ × Symbol × ℕ × List Symbol). WideBehind g t.0 t.1 t.2 t.3) (λ i. (z_is i, top i, sym o.0 i, sym o.1 i)) of_start
  behind_first (x ∷ w ∷ []) back s y is ending beta rest b parts begins = absurd (let tail : [] ≡ back = same_tail (same_tail (same_tail is)) in no_beta g beta rest b (tail ∙ parts) begins)
  behind_first (x ∷ w ∷ v ∷ []) back s y is ending beta rest b parts begins = absurd (nil-cons (same_tail (same_tail (same_tail is))))
  behind_first (x ∷ w ∷ v ∷ t ∷ front) back s y is ending beta rest b parts begins = absurd (nil-cons (same_tail (same_tail (same_tail is))))

  behind_expand : (z a p : ℕ) (r u front after : List Symbol) (s : Symbol) (y : ℕ) → IsEntered g z a → IsBehind z (Nonterminal a) u → Rule g p a r → r ≡ front ++ s ∷ after → IsEnding g front z y → IsBehind y s (after ++ u)
  behind_expand z a p r u front after s y entered owner rule right_is ending beta rest b parts begins =
      let place : IsWidePlace g z a y s after = record { p = p; rule = record { left = a; right = r }; before = front; rule_is = rule; left_is = refl; right_is = right_is; entered = entered; ending = ending } in
      ⊎_elim
      (λ (t : (more : List Symbol) × (after ≡ beta ++ more) × (rest ≡ more ++ u)). here z a y s after beta t.0 b place t.1 begins)
      (λ (t : (x : Symbol) × (more : List Symbol) × (beta ≡ after ++ x ∷ more) × (u ≡ (x ∷ more) ++ rest)).
      let k = begins-cut g after t.1 t.0 b (subst (λ (f : List Symbol). BeginsAtLast g f b) t.2 begins) in
      subst (λ (f : List Symbol). WideBehind g y s b f) (sym t.2) (through z a y s after (t.0 ∷ t.1) b place k.0 (owner (t.0 ∷ t.1) rest b t.3 k.1)))
      (parted after u beta rest parts)

  pub by_rules : (z a b : ℕ) (beta : List Symbol) → IsWideLookback g z a b beta → WideBehind g z (Terminal a) b beta
  by_rules z a b beta (below, after, begins) =
      ruled_stands g IsBehind behind_first behind_expand z (Terminal a ∷ (beta ++ below)) (stands_before g z a (beta ++ below) after) [] (beta ++ below) (Terminal a) z refl ([], [], refl, refl) beta below b refl begins

  -- ---- by rules, then by derivations

  pub at_place : (z0 owner z : ℕ) (s : Symbol) (after : List Symbol) (u : List Symbol) → IsWidePlace g z0 owner z s after → Stands g z0 (Nonterminal owner ∷ u) → Stands g z (s ∷ (after ++ u))
  at_place z0 owner z s after u place stands =
      let rule : Rule g place.p owner place.rule.right = place.rule_is ∙ ap (λ (n : ℕ). Some (record { left = n; right = place.rule.right })) place.left_is in
      let opened : Stands g z0 (place.before ++ (s ∷ (after ++ u))) = subst (Stands g z0) (ap (λ (f : List Symbol). f ++ u) place.right_is ∙ append_assoc place.before (s ∷ after) u) (stands_expand g z0 owner place.p place.rule.right u stands rule) in
      stands_ending g z0 z place.before (s ∷ (after ++ u)) opened place.ending

  pub behind_stands : (z : ℕ) (s : Symbol) (b : ℕ) (beta : List Symbol) → WideBehind g z s b beta → (rest : List Symbol) × Stands g z (s ∷ (beta ++ rest)) × BeginsAtLast g beta b
  behind_stands _ _ _ _ (here z0 owner z s after beta rest b place parts begins) =
      let e = stands_of_entered g z0 owner place.entered in
      let t = at_place z0 owner z s after e.0 place e.1 in
      (rest ++ e.0, subst (λ (f : List Symbol). Stands g z (s ∷ f)) (ap (λ (f : List Symbol). f ++ e.0) parts ∙ append_assoc beta rest e.0) t, begins)
  behind_stands _ _ _ _ (through z0 owner z s after inner b place nullable h) =
      let r = behind_stands z0 (Nonterminal owner) b inner h in
      let t = at_place z0 owner z s after (inner ++ r.0) place r.1 in
      (r.0, subst (λ (f : List Symbol). Stands g z (s ∷ f)) (sym (append_assoc after inner r.0)) t, begins-more g after inner b nullable r.2)
  behind_stands _ _ _ _ of_start = ([], stands_match g begin_mark begin_mark (first_stack g) (stands_first g), ([], Terminal (end_mark g), refl, ([], refl), ([], [], refl)))
  behind_stands _ _ _ _ (of_begin beta rest b parts begins) = (rest, subst (λ (f : List Symbol). Stands g begin_mark (Terminal begin_mark ∷ f)) parts (stands_first g), begins)

  pub by_derivations : (z a b : ℕ) (beta : List Symbol) → WideBehind g z (Terminal a) b beta → IsWideLookback g z a b beta
  by_derivations z a b beta h = let r = behind_stands z (Terminal a) b beta h in (r.0, stands_after g z a (beta ++ r.0) r.1, r.2)

-- the same cell for a set in other words
pub keeps_as : (one two : List Symbol → Type 0) (c : Slots) → ((w : List Symbol) → one w → two w) → ((w : List Symbol) → two w → one w) → KeepsLeast one c → KeepsLeast two c
keeps_as one two Empty there back k = λ w m. k w (back w m)
keeps_as one two (One x) there back k = (there x k.0, λ w m. k.1 w (back w m))
keeps_as one two (Two x y) there back k = (there x k.0, there y k.1, k.2, λ w m. k.3 w (back w m))
