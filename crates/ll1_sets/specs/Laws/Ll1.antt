-- In an LL(1) grammar a reachable stack reads a terminal in at most one way.
use Rattle.std.proofs.Common.{◌≡◌, ℕ, ◌⊎◌, inl, inr, List, [], ◌∷◌, ◌++◌, refl, sym, ap, ap₂, ◌∙◌, subst, append_assoc}
use Rattle.grammar_file.specs.declared.symbols.Symbol.{Symbol}
use Rattle.grammar_file.specs.declared.symbols.Symbol.TheVariants.{Terminal, Nonterminal}
use Rattle.grammar_file.specs.Grammar.{Grammar, end_mark, whole}
use Rattle.grammar_file.specs.Derivation.{Derives, word_form, IsLeftParse, Tree, IsParseTree, preorder}
use Rattle.grammar_file.specs.Drive.{Drives, Reads, Rule}
use Rattle.grammar_file.specs.Laws.Words.{same_head, same_tail, terminal-nonterminal, same_nonterminal, word-append}
use Rattle.grammar_file.specs.Laws.Derives.{same_rule, derives_step, derives_on, derives_word}
use Rattle.grammar_file.specs.Laws.Drives.{reads_derives, reads_apart, Above, Below}
use Rattle.grammar_file.specs.Laws.LeftParse.{above_end, drives_of_left_parse}
use Rattle.grammar_file.specs.Laws.Trees.{one_tree, left_parse_of_tree}
use Rattle.ll1_sets.specs.Predict.{IsFirst, IsNullable, IsFollow, IsPredicted, IsLl1}

-- a leftmost derivation of the whole text leads to some word and then this stack
abbrev pub IsReached : Grammar → List Symbol → Type 0
IsReached g stack = (ps x : List ℕ) × Derives g (whole g) ps (word_form x ++ stack)

module _ (g : Grammar) where
  pub start_reached : IsReached g (above_end (end_mark g))
  start_reached = ([], 0 ∷ [], refl)

  pub reached_terminal : (a : ℕ) (stack : List Symbol) → IsReached g (Terminal a ∷ stack) → IsReached g stack
  reached_terminal a stack h =
      let e : word_form h.1 ++ Terminal a ∷ stack ≡ word_form (h.1 ++ a ∷ []) ++ stack = sym (ap (λ f. f ++ stack) (word-append h.1 (a ∷ [])) ∙ append_assoc (word_form h.1) (Terminal a ∷ []) stack) in
      (h.0, h.1 ++ a ∷ [], subst (Derives g (whole g) h.0) e h.2)

  pub reached_step : (p a : ℕ) (r rest : List Symbol) → Rule g p a r → IsReached g (Nonterminal a ∷ rest) → IsReached g (r ++ rest)
  reached_step p a r rest k h =
      (h.0 ++ p ∷ [], h.1, derives_on g (whole g) (word_form h.1 ++ Nonterminal a ∷ rest) (word_form h.1 ++ (r ++ rest)) h.0 (p ∷ []) h.2 (derives_word g h.1 (Nonterminal a ∷ rest) (p ∷ []) (r ++ rest) (derives_step g p a r rest [] (r ++ rest) k refl)))

  pub reads_reached : (c : ℕ) (ps : List ℕ) (stack v : List Symbol) → Reads g c ps stack v → IsReached g stack → IsReached g v
  reads_reached c [] stack v h k = reached_terminal c v (subst (IsReached g) h k)
  reads_reached c (p ∷ ps) stack v h k = reads_reached c ps (h.1 ++ h.2) v h.5 (reached_step p h.0 h.1 h.2 h.4 (subst (IsReached g) h.3 k))

  -- a production that is used on the way to c predicts c
  pub predicts : (p a c : ℕ) (r rest : List Symbol) (ps : List ℕ) (v : List Symbol) → IsReached g (Nonterminal a ∷ rest) → Rule g p a r → Reads g c ps (r ++ rest) v → IsPredicted g a p c
  predicts p a c r rest ps v reach rule h = (record { left = a; right = r }, rule, refl, go (reads_apart g c ps r rest v h))
    where
      go : Above g c ps r rest v ⊎ Below g c ps r rest v → IsFirst g r c ⊎ (IsNullable g r × IsFollow g a c)
      go (inl x) = inl (ps, x.opens, reads_derives g c ps r x.opens x.reads)
      go (inr y) = inr ((y.ps1, y.nothing), (reach.0, reach.1, rest, reach.2, (y.ps2, v, reads_derives g c y.ps2 rest v y.reads)))

  pub reads_same : IsLl1 g → (c : ℕ) (ps qs : List ℕ) (stack v u : List Symbol) → IsReached g stack → Reads g c ps stack v → Reads g c qs stack u → (ps ≡ qs) × (v ≡ u)
  reads_same ll c [] [] stack v u k h i = (refl, same_tail (sym h ∙ i))
  reads_same ll c [] (q ∷ qs) stack v u k h i = absurd (terminal-nonterminal (same_head (sym h ∙ i.3)))
  reads_same ll c (p ∷ ps) [] stack v u k h i = absurd (terminal-nonterminal (same_head (sym i ∙ h.3)))
  reads_same ll c (p ∷ ps) (q ∷ qs) stack v u k h i =
      let s = sym h.3 ∙ i.3 in
      let ab = same_nonterminal (same_head s) in
      let here = subst (IsReached g) h.3 k in
      let rule = subst (λ n. Rule g q n i.1) (sym ab) i.4 in
      let i5 = subst (λ f. Reads g c qs (i.1 ++ f) u) (sym (same_tail s)) i.5 in
      let pq = ll h.0 p q c (predicts p h.0 c h.1 h.2 ps v here h.4 h.5) (predicts q h.0 c i.1 h.2 qs u here rule i5) in
      let r = (same_rule g q h.0 h.0 h.1 i.1 (subst (λ n. Rule g n h.0 h.1) pq h.4) rule).1 in
      let j = reads_same ll c ps qs (h.1 ++ h.2) v u (reached_step p h.0 h.1 h.2 h.4 here) h.5 (subst (λ f. Reads g c qs (f ++ h.2) u) (sym r) i5) in
      (ap₂ (λ (x : ℕ) (xs : List ℕ). x ∷ xs) pq j.0, j.1)

  pub drives_reached : (word ps : List ℕ) (stack v : List Symbol) → Drives g word ps stack v → IsReached g stack → IsReached g v
  drives_reached [] ps stack v h k = subst (IsReached g) h.1 k
  drives_reached (c ∷ word) ps stack v h k = drives_reached word h.1 h.2 v h.5 (reads_reached c h.0 stack h.2 h.4 k)

  pub drives_same : IsLl1 g → (word ps qs : List ℕ) (stack v u : List Symbol) → IsReached g stack → Drives g word ps stack v → Drives g word qs stack u → (ps ≡ qs) × (v ≡ u)
  drives_same ll [] ps qs stack v u k h i = (h.0 ∙ sym i.0, sym h.1 ∙ i.1)
  drives_same ll (c ∷ word) ps qs stack v u k h i =
      let f = reads_same ll c h.0 i.0 stack h.2 i.2 k h.4 i.4 in
      let j = drives_same ll word h.1 i.1 h.2 v u (reads_reached c h.0 stack h.2 h.4 k) h.5 (subst (λ m. Drives g word i.1 m u) (sym f.1) i.5) in
      (h.3 ∙ (ap₂ (λ a b. a ++ b) f.0 j.0 ∙ sym i.3), j.1)

  -- so a word has at most one left parse
  pub left_parse_same : IsLl1 g → (word ps qs : List ℕ) → IsLeftParse g word ps → IsLeftParse g word qs → ps ≡ qs
  left_parse_same ll word ps qs h k =
      (drives_same ll (word ++ end_mark g ∷ []) ps qs (above_end (end_mark g)) [] [] start_reached (drives_of_left_parse g (end_mark g) word ps h) (drives_of_left_parse g (end_mark g) word qs k)).0

  -- and at most one parse tree
  pub tree_same : IsLl1 g → (word : List ℕ) (t u : Tree) → IsParseTree g word t → IsParseTree g word u → t ≡ u
  tree_same ll word t u h k = one_tree g word t u h k (left_parse_same ll word (preorder t) (preorder u) (left_parse_of_tree g word t h) (left_parse_of_tree g word u k))
