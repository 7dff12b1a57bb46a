-- The symbols behind which something is closed, and what can come next.
use Rattle.std.proofs.Common.{◌≡◌, ℕ, ◌<◌, List, [], ◌∷◌, ◌++◌, length, ap, ◌∙◌, subst, arith}
use Rattle.std.specs.List.{AllByRecursion}
use Rattle.grammar_file.specs.declared.symbols.Symbol.{Symbol}
use Rattle.grammar_file.specs.declared.symbols.Symbol.TheVariants.{Terminal, Nonterminal}
use Rattle.grammar_file.specs.Grammar.{Grammar, Production, begin_mark, end_mark, IsSymbol, IsWellFormed}
use Rattle.grammar_file.specs.Drive.{Reads}
use Rattle.grammar_file.specs.Laws.Drives.{reads_first}
use Rattle.grammar_file.specs.Laws.Words.{same_nonterminal}
use Rattle.ll1_sets.specs.Width.{width_of}
use Rattle.ll1_sets.specs.Predict.{IsFirst}
use Rattle.ll1_sets.specs.Behind.{Behind, here, through, of_start, of_begin}
use Rattle.ll1_sets.specs.Laws.FollowSets.{begins_first}

module _ (P : Symbol → Type 0) where
  pub all_left : (u v : List Symbol) → AllByRecursion P (u ++ v) → AllByRecursion P u
  all_left [] v h = tt
  all_left (s ∷ u) v h = (h.0, all_left u v h.1)

  pub all_right : (u v : List Symbol) → AllByRecursion P (u ++ v) → AllByRecursion P v
  all_right [] v h = h
  all_right (s ∷ u) v h = all_right u v h.1

  pub all_both : (u v : List Symbol) → AllByRecursion P u → AllByRecursion P v → AllByRecursion P (u ++ v)
  all_both [] v h k = k
  all_both (s ∷ u) v h k = (h.0, all_both u v h.1 k)

module _ (g : Grammar) (well : IsWellFormed g) where
  -- the symbol is one of the grammar's, or the end mark
  abbrev pub IsUpToEnd : Symbol → Type 0
  IsUpToEnd (Terminal a) = a < width_of g
  IsUpToEnd (Nonterminal a) = Unit {0}

  up_to_end : (form : List Symbol) → AllByRecursion (IsSymbol g) form → AllByRecursion IsUpToEnd form
  up_to_end [] h = tt
  up_to_end (Terminal a ∷ form) h = let l = h.0.1 in (let k : a < width_of g = omega arith in k, up_to_end form h.1)
  up_to_end (Nonterminal a ∷ form) h = (tt, up_to_end form h.1)

  reads_up_to : (b : ℕ) (ps : List ℕ) (stack v : List Symbol) → AllByRecursion IsUpToEnd stack → Reads g b ps stack v → b < width_of g
  reads_up_to b [] stack v h r = (subst (AllByRecursion IsUpToEnd) r h).0
  reads_up_to b (p ∷ ps) stack v h r =
      reads_up_to b ps (r.1 ++ r.2) v (all_both IsUpToEnd r.1 r.2 (up_to_end r.1 (well.symbols p (record { left = r.0; right = r.1 }) r.4)) (subst (AllByRecursion IsUpToEnd) r.3 h).1) r.5

  first_up_to : (b : ℕ) (form : List Symbol) → AllByRecursion IsUpToEnd form → IsFirst g form b → b < width_of g
  first_up_to b form h f = let r = reads_first g b f.0 form f.1 f.2 in reads_up_to b r.ps1 form r.left h r.reads

  pub first_within : (b : ℕ) (form : List Symbol) → AllByRecursion (IsSymbol g) form → IsFirst g form b → b < width_of g
  first_within b form h f = first_up_to b form (up_to_end form h) f

  -- what comes next is a terminal of the grammar, or the end mark
  pub next_within : (s : Symbol) (b : ℕ) (beta : List Symbol) → Behind g s b beta → b < width_of g
  next_within _ _ _ (here p rule before after beta rest s b is right_parts parts begin) =
      first_within b beta
      (all_left (IsSymbol g) beta rest (subst (AllByRecursion (IsSymbol g)) parts (all_right (IsSymbol g) before (s ∷ after) (subst (AllByRecursion (IsSymbol g)) right_parts (well.symbols p rule is))).1))
      (begins_first g beta b begin)
  next_within _ _ _ (through p rule before after beta s b is right_parts none h) = next_within (Nonterminal rule.left) b beta h
  next_within _ _ _ of_start = omega arith
  next_within _ _ _ (of_begin beta rest b parts begin) =
      first_up_to b beta (all_left IsUpToEnd beta rest (subst (AllByRecursion IsUpToEnd) parts (tt, (let l : end_mark g < width_of g = omega arith in l, tt)))) (begins_first g beta b begin)

  symbol_within : (a p : ℕ) (rule : Production) (before after : List Symbol) → AllByRecursion (IsSymbol g) rule.right → rule.right ≡ before ++ Terminal a ∷ after → a < width_of g
  symbol_within a p rule before after h parts = let l = (all_right (IsSymbol g) before (Terminal a ∷ after) (subst (AllByRecursion (IsSymbol g)) parts h)).0.1 in omega arith

  -- what came last is one of them, or the begin mark
  pub last_within : (s : Symbol) (b : ℕ) (beta : List Symbol) → Behind g s b beta → (a : ℕ) → s ≡ Terminal a → a < width_of g
  last_within _ _ _ (here p rule before after beta rest s b is right_parts parts begin) a same = symbol_within a p rule before after (well.symbols p rule is) (right_parts ∙ ap (λ x. before ++ x ∷ after) same)
  last_within _ _ _ (through p rule before after beta s b is right_parts none h) a same = symbol_within a p rule before after (well.symbols p rule is) (right_parts ∙ ap (λ x. before ++ x ∷ after) same)
  last_within _ _ _ of_start a same = absurd (cc)
  last_within _ _ _ (of_begin beta rest b parts begin) a same = let e : begin_mark ≡ a = cc in omega arith

  -- and a nonterminal is one of the grammar's
  nonterminal_there : (a : ℕ) (rule : Production) (before after : List Symbol) → AllByRecursion (IsSymbol g) rule.right → rule.right ≡ before ++ Nonterminal a ∷ after → a < length g.nonterminals
  nonterminal_there a rule before after h parts = (all_right (IsSymbol g) before (Nonterminal a ∷ after) (subst (AllByRecursion (IsSymbol g)) parts h)).0

  pub nonterminal_within : (s : Symbol) (b : ℕ) (beta : List Symbol) → Behind g s b beta → (a : ℕ) → s ≡ Nonterminal a → a < length g.nonterminals
  nonterminal_within _ _ _ (here p rule before after beta rest s b is right_parts parts begin) a same = nonterminal_there a rule before after (well.symbols p rule is) (right_parts ∙ ap (λ x. before ++ x ∷ after) same)
  nonterminal_within _ _ _ (through p rule before after beta s b is right_parts none h) a same = nonterminal_there a rule before after (well.symbols p rule is) (right_parts ∙ ap (λ x. before ++ x ∷ after) same)
  nonterminal_within _ _ _ of_start a same = subst (λ n. n < length g.nonterminals) (same_nonterminal same) well.has_start
  nonterminal_within _ _ _ (of_begin beta rest b parts begin) a same = absurd (cc)
