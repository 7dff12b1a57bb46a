-- FOLLOW by the rules of what is closed behind a nonterminal.
use Rattle.std.proofs.Common.{◌≡◌, ℕ, ⊎_elim, List, [], ◌∷◌, ◌++◌, refl, sym, ap, ◌∙◌, subst, append_assoc}
use Rattle.grammar_file.specs.declared.symbols.Symbol.{Symbol}
use Rattle.grammar_file.specs.declared.symbols.Symbol.TheVariants.{Terminal, Nonterminal}
use Rattle.grammar_file.specs.Grammar.{Grammar, whole, IsWellFormed}
use Rattle.grammar_file.specs.Derivation.{Derives, word_form}
use Rattle.grammar_file.specs.Spelling.{IsReduced}
use Rattle.grammar_file.specs.Laws.Derivations.{word_form-append, cancel, derives-append, derives-rest, derives-none}
use Rattle.grammar_file.specs.Laws.Forms.{cut}
use Rattle.ll1_sets.specs.Predict.{IsNullable, IsFirst, IsFollow}
use Rattle.ll1_sets.specs.Behind.{BeginsAtLast, Behind}
use Rattle.ll1_sets.specs.Laws.BehindRules.{led-derives, led-whole, longer, top_behind}
use Rattle.ll1_sets.specs.Laws.FormTests.{first_front, first_behind}

module _ (g : Grammar) where
  -- the front of a form that a look-ahead opens
  pub front_first : (u : List Symbol) (ps : List ℕ) (b : ℕ) (v : List Symbol) → Derives g u ps (Terminal b ∷ v) → (beta below : List Symbol) × (u ≡ beta ++ below) × BeginsAtLast g beta b
  front_first [] ps b v h = absurd (let e = derives-none g ps (Terminal b ∷ v) h in cc)
  front_first (s ∷ u) ps b v h = ⊎_elim
      (λ (t : (qs : List ℕ) × (w : List Symbol) × Derives g (s ∷ []) qs (Terminal b ∷ w)). (s ∷ [], u, refl, ([], s, refl, ([], refl), t)))
      (λ (t : ((qs : List ℕ) × Derives g (s ∷ []) qs []) × ((qs : List ℕ) × (w : List Symbol) × Derives g u qs (Terminal b ∷ w))). more t.0 (front_first u t.1.0 b t.1.1 t.1.2))
      (cut g ps (s ∷ []) u b v h)
    where
      more : IsNullable g (s ∷ []) → (beta below : List Symbol) × (u ≡ beta ++ below) × BeginsAtLast g beta b → (beta below : List Symbol) × (s ∷ u ≡ beta ++ below) × BeginsAtLast g beta b
      more n r = (
        s ∷ r.0,
        r.1,
        ap (λ (f : List Symbol). s ∷ f) r.2,
        (
          s ∷ r.3.0,
          r.3.1,
          ap (λ (f : List Symbol). s ∷ f) r.3.2,
          (n.0 ++ r.3.3.0, derives-append g n.0 r.3.3.0 (s ∷ r.3.0) r.3.0 [] (derives-rest g n.0 (s ∷ []) [] r.3.0 n.1) r.3.3.1),
          r.3.4,
        ),
      )

  pub begins_first : (beta : List Symbol) (b : ℕ) → BeginsAtLast g beta b → IsFirst g beta b
  begins_first beta b h = subst (λ f. IsFirst g f b) (sym h.2) (first_behind g b h.0 (h.1 ∷ []) h.3 h.4)

  -- where b may come behind a, something is closed there
  pub follow_behind : (a b : ℕ) → IsFollow g a b → (beta : List Symbol) × Behind g (Nonterminal a) b beta
  follow_behind a b f =
      let x = f.1 in
      let rest = f.2 in
      let first : IsFirst g rest b = f.4 in
      let l = led-derives g f.0 (whole g) (word_form x ++ Nonterminal a ∷ rest) (led-whole g) f.3 in
      let r = front_first rest first.0 b first.1 first.2 in
      ⊎_elim
      (λ (t : (more : List ℕ) × (l.word ≡ x ++ more)). (r.0, l.ruled [] rest r.0 r.1 (Nonterminal a) b (same_form t.0 l.form (cancel x (word_form t.0 ++ l.form) (Nonterminal a ∷ rest) (sym (append_assoc (word_form x) (word_form t.0) l.form) ∙ (ap (λ (s : List Symbol). s ++ l.form) (sym (word_form-append x t.0)) ∙ (ap (λ (w : List ℕ). word_form w ++ l.form) (sym t.1) ∙ sym l.parts))))) r.2 r.3))
      (λ (t : (d : ℕ) × (more : List ℕ) × (x ≡ l.word ++ d ∷ more) × (l.form ≡ word_form (d ∷ more) ++ Nonterminal a ∷ rest)). (r.0, l.ruled (word_form (t.0 ∷ t.1)) rest r.0 r.1 (Nonterminal a) b t.3 r.2 r.3))
      (longer g l.word x l.form (Nonterminal a ∷ rest) (sym l.parts))
    where
      same_form : (more : List ℕ) (form : List Symbol) → word_form more ++ form ≡ Nonterminal a ∷ f.2 → form ≡ Nonterminal a ∷ f.2
      same_form [] form h = h
      same_form (d ∷ more) form h = absurd (cc)

  -- and the other way
  pub behind_follow : IsWellFormed g → IsReduced g → (a b : ℕ) (beta : List Symbol) → Behind g (Nonterminal a) b beta → IsFollow g a b
  behind_follow well reduced a b beta h =
      let r = top_behind g well reduced (Nonterminal a) b beta h in
      (r.2.ps, r.0, beta ++ r.1, r.2.reaches, first_front g b beta r.1 (begins_first beta b r.3))
