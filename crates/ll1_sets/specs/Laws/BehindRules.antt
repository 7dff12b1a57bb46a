-- What stands behind a symbol of a form that is derived, by derivations and by rules.
use Rattle.std.proofs.Common.{◌≡◌, ℕ, ◌⊎◌, inl, inr, ⊎_elim, List, [], ◌∷◌, ◌++◌, Option, Some, None, option_and_then, Bool, cond, eq-eqb, sym, refl, ap, ◌∙◌, subst, append_assoc, append-nil}
use Rattle.grammar_file.specs.declared.symbols.Symbol.{Symbol}
use Rattle.grammar_file.specs.declared.symbols.Symbol.TheVariants.{Terminal, Nonterminal}
use Rattle.grammar_file.specs.Grammar.{Grammar, Production, production, begin_mark, end_mark, whole, IsWellFormed}
use Rattle.grammar_file.specs.Derivation.{expanded, leftmost_step, derived, Derives, word_form}
use Rattle.grammar_file.specs.Spelling.{IsReduced, IsReachable, start_is, right_is}
use Rattle.grammar_file.specs.Laws.Derivations.{map_some, then_some, word_form-append, cancel, derives-append, derives-split, derives-one, derives-rest, derives-under, derives-keeps, derives-none}
use Rattle.grammar_file.specs.Laws.Forms.{step_at, no_step, Ours, word_of}
use Rattle.ll1_sets.specs.Predict.{IsNullable}
use Rattle.ll1_sets.specs.Behind.{BeginsAtLast, Behind, here, through, of_start, of_begin}

-- two ways to cut a list in two
abbrev pub Parted : List Symbol → List Symbol → List Symbol → List Symbol → Type 0
Parted r u m rest = ((more : List Symbol) × (r ≡ m ++ more) × (rest ≡ more ++ u)) ⊎ ((s : Symbol) × (more : List Symbol) × (m ≡ r ++ s ∷ more) × (u ≡ (s ∷ more) ++ rest))

pub parted : (r u m rest : List Symbol) → r ++ u ≡ m ++ rest → Parted r u m rest
parted r u [] rest h = inl (r, refl, sym h)
parted [] u (s ∷ m) rest h = inr (s, m, refl, h)
parted (x ∷ r) u (s ∷ m) rest h = let first : x ≡ s = cc in let tail : r ++ u ≡ m ++ rest = cc in
    ⊎_elim (λ (t : (more : List Symbol) × (r ≡ m ++ more) × (rest ≡ more ++ u)). inl (t.0, λ i. first i ∷ t.1 i, t.2))
    (λ (t : (s : Symbol) × (more : List Symbol) × (m ≡ r ++ s ∷ more) × (u ≡ (s ∷ more) ++ rest)). inr (t.0, t.1, λ i. sym first i ∷ t.2 i, t.3)) (parted r u m rest tail)

module _ (g : Grammar) where
  -- ---- what a form that derives nothing, or b at its last symbol, is made of

  nullable-cut : (ps : List ℕ) (u v : List Symbol) → Derives g (u ++ v) ps [] → IsNullable g u × IsNullable g v
  nullable-cut ps [] v h = (([], refl), (ps, h))
  nullable-cut ps (Terminal a ∷ u) v h = absurd (let k = derives-keeps g ps (a ∷ []) (u ++ v) [] h in let e = k.2 in cc)
  nullable-cut [] (Nonterminal a ∷ u) v h = absurd (cc)
  nullable-cut (p ∷ ps) (Nonterminal a ∷ u) v h =
      let m = then_some (derived g ps) (leftmost_step g p (Nonterminal a ∷ (u ++ v))) [] h in
      let s = step_at g p a (u ++ v) m.0 m.1 in
      let next : m.0 ≡ (s.rule.right ++ u) ++ v = s.next_is ∙ sym (append_assoc s.rule.right u v) in
      let r = nullable-cut ps (s.rule.right ++ u) v (subst (λ (f : List Symbol). Derives g f ps []) next m.2) in
      ((p ∷ r.0.0, ap (option_and_then (derived g r.0.0)) (ap (λ (o : Option Production). expanded o a u) s.rule_is ∙ ap (λ (b : Bool). cond b (Some (s.rule.right ++ u)) None) (eq-eqb s.rule.left a s.left_is)) ∙ r.0.1), r.1)

  -- where a list with s and more behind r ends with one symbol, so does s and more
  last-cut : (r more above : List Symbol) (s last : Symbol) → r ++ s ∷ more ≡ above ++ last ∷ [] → (front : List Symbol) × (above ≡ r ++ front) × (s ∷ more ≡ front ++ last ∷ [])
  last-cut [] more above s last h = (above, refl, h)
  last-cut (x ∷ r) more [] s last h = absurd (nothing r more (cc))
    where
      nothing : (r more : List Symbol) → r ++ s ∷ more ≡ [] → ⊥
      nothing [] more e = cc
      nothing (y ∷ r) more e = cc
  last-cut (x ∷ r) more (y ∷ above) s last h = let first : y ≡ x = cc in let k = last-cut r more above s last (cc) in (k.0, λ i. first i ∷ k.1 i, k.2)

  pub begins-cut : (r more : List Symbol) (s : Symbol) (b : ℕ) → BeginsAtLast g (r ++ s ∷ more) b → IsNullable g r × BeginsAtLast g (s ∷ more) b
  begins-cut r more s b h =
      let k = last-cut r more h.0 s h.1 h.2 in
      let n = nullable-cut h.3.0 r k.0 (subst (λ (f : List Symbol). Derives g f h.3.0 []) k.1 h.3.1) in
      (n.0, (k.0, h.1, k.2, n.1, h.4))

  -- ---- by derivations, then by rules

  -- what stands behind each symbol of the form is by the rules
  abbrev pub Ruled : List Symbol → Type 0
  Ruled u = (front back beta rest : List Symbol) (s : Symbol) (b : ℕ) → u ≡ front ++ s ∷ back → back ≡ beta ++ rest → BeginsAtLast g beta b → Behind g s b beta

  pub ruled-tail : (front u : List Symbol) → Ruled (front ++ u) → Ruled u
  ruled-tail front u r before back beta rest s b is = r (front ++ before) back beta rest s b (ap (λ (f : List Symbol). front ++ f) is ∙ sym (append_assoc front before (s ∷ back)))

  pub ruled-step : (p a : ℕ) (rule : Production) (u : List Symbol) → production g p ≡ Some rule → rule.left ≡ a → Ruled (Nonterminal a ∷ u) → Ruled (rule.right ++ u)
  ruled-step p a rule u rule_is left r front back beta rest s b is parts begins =
      ⊎_elim
      -- the symbol stands in u
      (λ (t : (more : List Symbol) × (rule.right ≡ front ++ more) × (s ∷ back ≡ more ++ u)). inner t.0 t.1 t.2)
      (λ (t : (x : Symbol) × (more : List Symbol) × (front ≡ rule.right ++ x ∷ more) × (u ≡ (x ∷ more) ++ s ∷ back)). r (Nonterminal a ∷ t.0 ∷ t.1) back beta rest s b (ap (λ (f : List Symbol). Nonterminal a ∷ f) t.3) parts begins)
      (parted rule.right u front (s ∷ back) is)
    where
      -- the symbol stands in the right side, and after it comes `after` of the right side
      in_right : (after : List Symbol) → rule.right ≡ front ++ s ∷ after → back ≡ after ++ u → Behind g s b beta
      in_right after right_parts back_parts = ⊎_elim
          (λ (t : (more : List Symbol) × (after ≡ beta ++ more) × (rest ≡ more ++ u)). here p rule front after beta t.0 s b rule_is right_parts t.1 begins)
          (λ (t : (x : Symbol) × (more : List Symbol) × (beta ≡ after ++ x ∷ more) × (u ≡ (x ∷ more) ++ rest)).
          let k = begins-cut after t.1 t.0 b (subst (λ (f : List Symbol). BeginsAtLast g f b) t.2 begins) in
          subst (Behind g s b) (sym t.2) (through p rule front after (t.0 ∷ t.1) s b rule_is right_parts k.0
          (subst (λ (n : ℕ). Behind g (Nonterminal n) b (t.0 ∷ t.1)) (sym left) (r [] u (t.0 ∷ t.1) rest (Nonterminal a) b refl t.3 k.1))))
          (parted after u beta rest (sym back_parts ∙ parts))

      inner : (more : List Symbol) → rule.right ≡ front ++ more → s ∷ back ≡ more ++ u → Behind g s b beta
      inner [] right_parts e = r (Nonterminal a ∷ []) back beta rest s b (ap (λ (f : List Symbol). Nonterminal a ∷ f) (sym e)) parts begins
      inner (x ∷ more) right_parts e = let same : x ≡ s = cc in in_right more (right_parts ∙ (λ i. front ++ same i ∷ more)) (cc)

  -- a form that is led to: terminals, and then a form whose symbols are ruled
  pub record IsLed (f : List Symbol) : Type 0 where
    pub word : List ℕ
    pub form : List Symbol
    pub parts : f ≡ word_form word ++ form
    pub ruled : Ruled form

  -- the first nonterminal of a form in which a step is made
  pub record AtStep (p : ℕ) (u w : List Symbol) : Type 0 where
    pub y : List ℕ
    pub a : ℕ
    pub below : List Symbol
    pub rule : Production
    pub rule_is : production g p ≡ Some rule
    pub left_is : rule.left ≡ a
    pub old : u ≡ word_form y ++ Nonterminal a ∷ below
    pub new : w ≡ word_form y ++ (rule.right ++ below)

  pub at_step : (p : ℕ) (u w : List Symbol) → leftmost_step g p u ≡ Some w → AtStep p u w
  at_step p [] w h = absurd (cc)
  at_step p (Terminal d ∷ u) w h = let k = map_some (λ (s : List Symbol). Terminal d ∷ s) (leftmost_step g p u) w h in let r = at_step p u k.0 k.1 in
      record { y = d ∷ r.y; a = r.a; below = r.below; rule = r.rule; rule_is = r.rule_is; left_is = r.left_is; old = ap (λ (s : List Symbol). Terminal d ∷ s) r.old; new = k.2 ∙ ap (λ (s : List Symbol). Terminal d ∷ s) r.new }
  at_step p (Nonterminal a ∷ u) w h = let s = step_at g p a u w h in record { y = []; a = a; below = u; rule = s.rule; rule_is = s.rule_is; left_is = s.left_is; old = refl; new = s.next_is }

  pub under_word : (x y : List ℕ) (u : List Symbol) → word_form x ++ (word_form y ++ u) ≡ word_form (x ++ y) ++ u
  under_word x y u = sym (append_assoc (word_form x) (word_form y) u) ∙ ap (λ (s : List Symbol). s ++ u) (sym (word_form-append x y))

  led-step : (p : ℕ) (f next : List Symbol) → IsLed f → leftmost_step g p f ≡ Some next → IsLed next
  led-step p f next l h =
      let k = Rattle.grammar_file.specs.Laws.Derivations.step-keeps g p l.word l.form next (ap (leftmost_step g p) (sym l.parts) ∙ h) in
      let s = at_step p l.form k.0 k.1 in
      record {
        word = l.word ++ s.y;
        form = s.rule.right ++ s.below;
        parts = k.2 ∙ (ap (λ (u : List Symbol). word_form l.word ++ u) s.new ∙ under_word l.word s.y (s.rule.right ++ s.below));
        ruled = ruled-step p s.a s.rule s.below s.rule_is s.left_is (ruled-tail (word_form s.y) (Nonterminal s.a ∷ s.below) (subst Ruled s.old l.ruled));
      }

  pub led-derives : (ps : List ℕ) (f next : List Symbol) → IsLed f → Derives g f ps next → IsLed next
  led-derives [] f next l h = subst IsLed (let e : f ≡ next = cc in e) l
  led-derives (p ∷ ps) f next l h = let m = then_some (derived g ps) (leftmost_step g p f) next h in led-derives ps m.0 next (led-step p f m.0 l m.1) m.2

  pub one_end : (beta rest : List Symbol) (b : ℕ) → Terminal (end_mark g) ∷ [] ≡ beta ++ rest → BeginsAtLast g beta b → (b ≡ end_mark g) × (beta ≡ Terminal (end_mark g) ∷ [])
  one_end [] rest b h begins = absurd (let e = begins.2 in empty begins.0 e)
    where
      empty : (above : List Symbol) → [] ≡ above ++ begins.1 ∷ [] → ⊥
      empty [] e = cc
      empty (x ∷ above) e = cc
  one_end (s ∷ beta) rest b h begins =
      let none : beta ≡ [] = nothing beta (cc) in
      let one : s ∷ beta ≡ Terminal (end_mark g) ∷ [] = λ i. (let e : s ≡ Terminal (end_mark g) = cc in e) i ∷ none i in
      let l = last begins.0 (sym one ∙ begins.2) in
      let k = derives-keeps g begins.4.0 (end_mark g ∷ []) [] (Terminal b ∷ begins.4.1) (subst (λ (x : Symbol). Derives g (x ∷ []) begins.4.0 (Terminal b ∷ begins.4.1)) (sym l) begins.4.2) in
      let e = k.2 in (cc, one)
    where
      nothing : (beta : List Symbol) → [] ≡ beta ++ rest → beta ≡ []
      nothing [] e = refl
      nothing (x ∷ beta) e = absurd (cc)

      last : (above : List Symbol) → Terminal (end_mark g) ∷ [] ≡ above ++ begins.1 ∷ [] → Terminal (end_mark g) ≡ begins.1
      last [] e = cc
      last (x ∷ []) e = absurd (cc)
      last (x ∷ y ∷ above) e = absurd (cc)

  pub no_beta : (beta rest : List Symbol) (b : ℕ) → [] ≡ beta ++ rest → BeginsAtLast g beta b → ⊥
  no_beta [] rest b h begins = empty begins.0 begins.2
    where
      empty : (above : List Symbol) → [] ≡ above ++ begins.1 ∷ [] → ⊥
      empty [] e = cc
      empty (x ∷ above) e = cc
  no_beta (s ∷ beta) rest b h begins = cc

  pub led-whole : IsLed (whole g)
  led-whole = record { word = []; form = whole g; parts = refl; ruled = at_place }
    where
      at_place : (front back beta rest : List Symbol) (s : Symbol) (b : ℕ) → whole g ≡ front ++ s ∷ back → back ≡ beta ++ rest → BeginsAtLast g beta b → Behind g s b beta
      at_place [] back beta rest s b is parts begins = let first : Terminal begin_mark ≡ s = cc in let tail : Nonterminal 0 ∷ Terminal (end_mark g) ∷ [] ≡ back = cc in subst (λ (x : Symbol). Behind g x b beta) first (of_begin beta rest b (tail ∙ parts) begins)
      at_place (x ∷ []) back beta rest s b is parts begins = let first : Nonterminal 0 ≡ s = cc in let tail : Terminal (end_mark g) ∷ [] ≡ back = cc in let o = one_end beta rest b (tail ∙ parts) begins in
          subst (λ (t : Symbol × ℕ × List Symbol). Behind g t.0 t.1 t.2) (λ i. (first i, sym o.0 i, sym o.1 i)) of_start
      at_place (x ∷ y ∷ []) back beta rest s b is parts begins = absurd (let tail : [] ≡ back = cc in no_beta beta rest b (tail ∙ parts) begins)
      at_place (x ∷ y ∷ z ∷ []) back beta rest s b is parts begins = absurd (cc)
      at_place (x ∷ y ∷ z ∷ w ∷ front) back beta rest s b is parts begins = absurd (cc)

  pub last_of : (ps : List ℕ) → (ps ≡ []) ⊎ ((early : List ℕ) × (p : ℕ) × (ps ≡ early ++ p ∷ []))
  last_of [] = inl refl
  last_of (p ∷ ps) = ⊎_elim (λ (e : ps ≡ []). inr ([], p, ap (λ (t : List ℕ). p ∷ t) e)) (λ (t : (early : List ℕ) × (q : ℕ) × (ps ≡ early ++ q ∷ [])). inr (p ∷ t.0, t.1, ap (λ (r : List ℕ). p ∷ r) t.2)) (last_of ps)

  -- of two words at the front of one form, one begins with the other
  pub longer : (z t : List ℕ) (u v : List Symbol) → word_form z ++ u ≡ word_form t ++ v
      → ((more : List ℕ) × (z ≡ t ++ more)) ⊎ ((c : ℕ) × (more : List ℕ) × (t ≡ z ++ c ∷ more) × (u ≡ word_form (c ∷ more) ++ v))
  longer z [] u v h = inl (z, refl)
  longer [] (c ∷ t) u v h = inr (c, t, refl, h)
  longer (d ∷ z) (c ∷ t) u v h = let first : d ≡ c = cc in
      ⊎_elim (λ (e : (more : List ℕ) × (z ≡ t ++ more)). inl (e.0, λ i. first i ∷ e.1 i))
      (λ (e : (b : ℕ) × (more : List ℕ) × (t ≡ z ++ b ∷ more) × (u ≡ word_form (b ∷ more) ++ v)). inr (e.0, e.1, (λ i. sym first i ∷ e.2 i), e.3)) (longer z t u v (cc))

  -- ---- by rules, then by derivations

  -- x has been matched, and u is the stack: where its top is a terminal, nothing behind that is expanded yet
  pub record Top (x : List ℕ) (u : List Symbol) : Type 0 where
    pub ps : List ℕ
    pub reaches : Derives g (whole g) ps (word_form x ++ u)
    pub alone : (a : ℕ) (below : List Symbol) → u ≡ Terminal a ∷ below → (early late : List ℕ) (w : List Symbol) → ps ≡ early ++ late
        → Derives g (whole g) early (word_form (x ++ a ∷ []) ++ w) → late ≡ []

  top_begin : Top [] (whole g)
  top_begin = record { ps = []; reaches = refl; alone = λ a below e early late w cut_is r. nothing early late cut_is }
    where
      nothing : (early late : List ℕ) → [] ≡ early ++ late → late ≡ []
      nothing [] late h = sym h
      nothing (e ∷ early) late h = absurd (cc)

  top_match : (x : List ℕ) (c : ℕ) (u : List Symbol) → Top x (Terminal c ∷ u) → Top (x ++ c ∷ []) u
  top_match x c u t = record {
    ps = t.ps;
    reaches = t.reaches ∙ ap Some (under_word x (c ∷ []) u);
    alone = λ a below e early late w cut_is r. t.alone c u refl early late (Terminal a ∷ w) cut_is (r ∙ ap Some (sym (under_word (x ++ c ∷ []) (a ∷ []) w)));
  }

  without_last : (xs ys : List ℕ) (p q : ℕ) → xs ++ p ∷ [] ≡ ys ++ q ∷ [] → xs ≡ ys
  without_last [] [] p q h = refl
  without_last [] (y ∷ []) p q h = absurd (cc)
  without_last [] (y ∷ z ∷ ys) p q h = absurd (cc)
  without_last (x ∷ []) [] p q h = absurd (cc)
  without_last (x ∷ z ∷ xs) [] p q h = absurd (cc)
  without_last (x ∷ xs) (y ∷ ys) p q h = let first : x ≡ y = cc in let r = without_last xs ys p q (cc) in λ i. first i ∷ r i

  top_expand : (x : List ℕ) (a p : ℕ) (rule : Production) (u : List Symbol) → production g p ≡ Some rule → rule.left ≡ a → Top x (Nonterminal a ∷ u) → Top x (rule.right ++ u)
  top_expand x a p rule u is left t =
      let step : leftmost_step g p (Nonterminal a ∷ u) ≡ Some (rule.right ++ u) = ap (λ (o : Option Production). expanded o a u) is ∙ ap (λ (b : Bool). cond b (Some (rule.right ++ u)) None) (eq-eqb rule.left a left) in
      record {
        ps = t.ps ++ p ∷ [];
        reaches = derives-append g t.ps (p ∷ []) (whole g) (word_form x ++ Nonterminal a ∷ u) (word_form x ++ (rule.right ++ u)) t.reaches
            (derives-under g (p ∷ []) x (Nonterminal a ∷ u) (rule.right ++ u) (ap (option_and_then (derived g [])) step));
        alone = λ c below e early late w cut_is r. ⊎_elim (λ (none : late ≡ []). none)
            (λ (k : (front : List ℕ) × (q : ℕ) × (late ≡ front ++ q ∷ [])). absurd (
            let shorter : t.ps ≡ early ++ k.0 = without_last t.ps (early ++ k.0) p k.1 (cut_is ∙ (ap (λ (l : List ℕ). early ++ l) k.2 ∙ sym (append_assoc early k.0 (k.1 ∷ [])))) in
            let d = derives-split g early k.0 (whole g) (word_form x ++ Nonterminal a ∷ u) (subst (λ (es : List ℕ). Derives g (whole g) es (word_form x ++ Nonterminal a ∷ u)) shorter t.reaches) in
            let same : d.0 ≡ word_form (x ++ c ∷ []) ++ w = derives-one g early (whole g) d.0 (word_form (x ++ c ∷ []) ++ w) d.1 r in
            let kept = derives-keeps g k.0 (x ++ c ∷ []) w (word_form x ++ Nonterminal a ∷ u) (subst (λ (f : List Symbol). Derives g f k.0 (word_form x ++ Nonterminal a ∷ u)) same d.2) in
            let tops : Nonterminal a ∷ u ≡ Terminal c ∷ kept.0 = cancel x (Nonterminal a ∷ u) (Terminal c ∷ kept.0) (kept.2 ∙ sym (under_word x (c ∷ []) kept.0)) in cc))
            (last_of late);
      }

  abbrev Worded : List ℕ → Type 0
  Worded qs = (v : List Symbol) (z x : List ℕ) (u : List Symbol) → Top x (v ++ u) → Derives g v qs (word_form z) → Top (x ++ z) u

  no_word : (z : List ℕ) → word_form z ≡ [] → z ≡ []
  no_word [] h = refl
  no_word (a ∷ z) h = absurd (cc)

  below_terminal : (qs : List ℕ) (c : ℕ) (v : List Symbol) (z : List ℕ) → Derives g (Terminal c ∷ v) qs (word_form z) → (rest : List ℕ) × (z ≡ c ∷ rest) × Derives g v qs (word_form rest)
  below_terminal qs c v z h = let k = derives-keeps g qs (c ∷ []) v (word_form z) h in by z k.0 k.1 k.2
    where
      by : (z : List ℕ) (w : List Symbol) → Derives g v qs w → word_form z ≡ Terminal c ∷ w → (rest : List ℕ) × (z ≡ c ∷ rest) × Derives g v qs (word_form rest)
      by [] w d e = absurd (cc)
      by (b ∷ z) w d e = let first : b ≡ c = cc in let tail : word_form z ≡ w = cc in (z, (λ i. first i ∷ z), d ∙ ap Some (sym tail))

  worded_none : Worded []
  worded_none [] z x u t d = let none : z ≡ [] = no_word z (cc) in subst (λ (y : List ℕ). Top y u) (sym (ap (λ (l : List ℕ). x ++ l) none ∙ append-nil x)) t
  worded_none (Terminal c ∷ v) z x u t d = let k = below_terminal [] c v z d in
      subst (λ (y : List ℕ). Top y u) (append_assoc x (c ∷ []) k.0 ∙ ap (λ (l : List ℕ). x ++ l) (sym k.1)) (worded_none v k.0 (x ++ c ∷ []) u (top_match x c (v ++ u) t) k.2)
  worded_none (Nonterminal a ∷ v) [] x u t d = absurd (cc)
  worded_none (Nonterminal a ∷ v) (b ∷ z) x u t d = absurd (cc)

  worded_next : (q : ℕ) (qs : List ℕ) → Worded qs → Worded (q ∷ qs)
  worded_next q qs ih [] z x u t d = absurd (no_step g q qs (word_form z) d)
  worded_next q qs ih (Terminal c ∷ v) z x u t d = let k = below_terminal (q ∷ qs) c v z d in
      subst (λ (y : List ℕ). Top y u) (append_assoc x (c ∷ []) k.0 ∙ ap (λ (l : List ℕ). x ++ l) (sym k.1)) (worded_next q qs ih v k.0 (x ++ c ∷ []) u (top_match x c (v ++ u) t) k.2)
  worded_next q qs ih (Nonterminal a ∷ v) z x u t d =
      let m = then_some (derived g qs) (leftmost_step g q (Nonterminal a ∷ v)) (word_form z) d in
      let s = step_at g q a v m.0 m.1 in
      ih (s.rule.right ++ v) z x u (subst (Top x) (sym (append_assoc s.rule.right v u)) (top_expand x a q s.rule (v ++ u) s.rule_is s.left_is t))
      (subst (λ (f : List Symbol). Derives g f qs (word_form z)) s.next_is m.2)

  worded : (qs : List ℕ) → Worded qs
  worded [] v z x u t d = worded_none v z x u t d
  worded (q ∷ qs) v z x u t d = worded_next q qs (worded qs) v z x u t d

  ours-front : (u v : List Symbol) → Ours g (u ++ v) → Ours g u
  ours-front [] v h = tt
  ours-front (s ∷ u) v h = (h.0, ours-front u v h.1)

  pub begins-more : (after beta : List Symbol) (b : ℕ) → IsNullable g after → BeginsAtLast g beta b → BeginsAtLast g (after ++ beta) b
  begins-more after beta b n h = (
    after ++ h.0,
    h.1,
    ap (λ (f : List Symbol). after ++ f) h.2 ∙ sym (append_assoc after h.0 (h.1 ∷ [])),
    (n.0 ++ h.3.0, derives-append g n.0 h.3.0 (after ++ h.0) h.0 [] (derives-rest g n.0 after [] h.0 n.1) h.3.1),
    h.4,
  )

  module _ (well : IsWellFormed g) (reduced : IsReduced g) where
    -- a symbol of a right side comes on top
    top_symbol : (x : List ℕ) (p : ℕ) (rule : Production) (before after u : List Symbol) (s : Symbol) → production g p ≡ Some rule → rule.right ≡ before ++ s ∷ after
        → Top x (Nonterminal rule.left ∷ u) → (y : List ℕ) × Top y (s ∷ (after ++ u))
    top_symbol x p rule before after u s is parts t =
        let opened = top_expand x rule.left p rule u is refl t in
        let lined : Top x (before ++ (s ∷ (after ++ u))) = subst (Top x) (ap (λ (f : List Symbol). f ++ u) parts ∙ append_assoc before (s ∷ after) u) opened in
        let w = word_of g well reduced.0 before (ours-front before (s ∷ after) (subst (Ours g) parts (well.symbols p rule is))) in
        (x ++ w.1, worded w.0 before w.1 x (s ∷ (after ++ u)) lined w.2)

    top_reached : (a : ℕ) → IsReachable g a → (x : List ℕ) × (u : List Symbol) × Top x (Nonterminal a ∷ u)
    top_reached _ start_is = ([] ++ begin_mark ∷ [], Terminal (end_mark g) ∷ [], top_match [] begin_mark (Nonterminal 0 ∷ Terminal (end_mark g) ∷ []) top_begin)
    top_reached _ (right_is p rule before after a h is parts) = let r = top_reached rule.left h in let t = top_symbol r.0 p rule before after r.1 (Nonterminal a) is parts r.2 in (t.0, after ++ r.1, t.1)

    pub top_behind : (s : Symbol) (b : ℕ) (beta : List Symbol) → Behind g s b beta → (x : List ℕ) × (rest : List Symbol) × Top x (s ∷ (beta ++ rest)) × BeginsAtLast g beta b
    top_behind _ _ _ (here p rule before after beta rest s b is right_parts parts begins) =
        let r = top_reached rule.left (reduced.1 rule.left (well.lefts p rule is)) in
        let t = top_symbol r.0 p rule before after r.1 s is right_parts r.2 in
        (t.0, rest ++ r.1, subst (λ (f : List Symbol). Top t.0 (s ∷ f)) (ap (λ (f : List Symbol). f ++ r.1) parts ∙ append_assoc beta rest r.1) t.1, begins)
    top_behind _ _ _ (through p rule before after inner s b is right_parts nullable h) =
        let r = top_behind (Nonterminal rule.left) b inner h in
        let t = top_symbol r.0 p rule before after (inner ++ r.1) s is right_parts r.2 in
        (t.0, r.1, subst (λ (f : List Symbol). Top t.0 (s ∷ f)) (sym (append_assoc after inner r.1)) t.1, begins-more after inner b nullable r.3)
    top_behind _ _ _ of_start = ([] ++ begin_mark ∷ [], [], top_match [] begin_mark (Nonterminal 0 ∷ Terminal (end_mark g) ∷ []) top_begin, ([], Terminal (end_mark g), refl, ([], refl), ([], [], refl)))
    top_behind _ _ _ (of_begin beta rest b parts begins) = ([], rest, subst (λ (f : List Symbol). Top [] (Terminal begin_mark ∷ f)) parts top_begin, begins)
