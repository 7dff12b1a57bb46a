-- Marks for FOLLOW that are kept sound, and complete once none is left to be made.
use Rattle.std.proofs.Common.{◌≡◌, ℕ, zero, suc, ◌+◌, ◌⊎◌, inl, inr, List, [], ◌∷◌, ◌++◌, length, get_or, take, drop, Bool, true, false, ◌&&◌, Some, slice_get, refl, sym, ap, ◌∙◌, subst, arith}
use Rattle.std.specs.List.{AllByRecursion}
use Rattle.std.proofs.lemmas.Option.{none-some, same_Some}
use Rattle.grammar_file.specs.declared.symbols.Symbol.{Symbol}
use Rattle.grammar_file.specs.declared.symbols.Symbol.TheVariants.{Terminal, Nonterminal}
use Rattle.grammar_file.specs.Grammar.{Grammar, Production, production, begin_mark, end_mark, IsSymbol, IsWellFormed}
use Rattle.grammar_file.specs.Spelling.{IsReduced}
use Rattle.grammar_file.specs.Marks.{AreMarksOf}
use Rattle.grammar_file.specs.Laws.Marks.{IsTurn}
use Rattle.ll1_sets.specs.Predict.{IsFirst, IsFollow}
use Rattle.ll1_sets.specs.Behind.{Behind, here, through, of_start, of_begin}
use Rattle.ll1_sets.specs.Marking.{begins, all_vanish, comes_behind, IsNextFollowIn, IsNextFollow, IsFollowClosed}
use Rattle.ll1_sets.specs.Laws.FormTests.{both, and, either, or_left, or_right, marking_turn, Nullable, First, first_front, vanishing, beginning, vanishes_exactly, begins_exactly}
use Rattle.ll1_sets.specs.Laws.FollowSets.{front_first, begins_first, follow_behind, behind_follow}

one_more : (k : ℕ) → suc k + 1 ≡ suc (k + 1)
one_more k = omega arith

-- a place of a list: what stands before it, there, and after it
pub parts_of : {X : Type 0} (xs : List X) (k : ℕ) (x : X) → slice_get xs k ≡ Some x → xs ≡ take k xs ++ x ∷ drop (k + 1) xs
parts_of [] k x h = absurd (none-some x h)
parts_of (y ∷ xs) zero x h = ap (λ z. z ∷ xs) (same_Some y x h)
parts_of (y ∷ xs) (suc k) x h = ap (λ zs. y ∷ zs) (parts_of xs k x h) ∙ ap (λ n. y ∷ (take k xs ++ x ∷ drop n (y ∷ xs))) (sym (one_more k))

pub symbol_at : {X : Type 0} (before : List X) (x : X) (after : List X) → slice_get (before ++ x ∷ after) (length before) ≡ Some x
symbol_at [] x after = refl
symbol_at (y ∷ before) x after = symbol_at before x after

pub rest_at : {X : Type 0} (before : List X) (x : X) (after : List X) → drop (length before + 1) (before ++ x ∷ after) ≡ after
rest_at [] x after = refl
rest_at (y ∷ before) x after = ap (λ n. drop n (y ∷ (before ++ x ∷ after))) (one_more (length before)) ∙ rest_at before x after

pub all_at : {X : Type 0} (P : X → Type 0) (xs : List X) (k : ℕ) (x : X) → AllByRecursion P xs → slice_get xs k ≡ Some x → P x
all_at P [] k x h e = absurd (none-some x e)
all_at P (y ∷ xs) zero x h e = subst P (same_Some y x e) h.0
all_at P (y ∷ xs) (suc k) x h e = all_at P xs k x h.1 e

module _ (g : Grammar) where
  pub follow_start : (b : ℕ) → end_mark g ≡ b → IsFollow g 0 b
  follow_start b e = subst (IsFollow g 0) e ([], begin_mark ∷ [], Terminal (end_mark g) ∷ [], refl, ([], [], refl))

  module _ (nullable first : List Bool) (b : ℕ) (nulls : AreMarksOf g (Nullable g) nullable) (firsts : AreMarksOf g (First g b) first) where
    -- what is next has b in FOLLOW
    next_is_follow : IsWellFormed g → IsReduced g → (follow : List Bool) → ((x : ℕ) → get_or follow x false ≡ true → IsFollow g x b) → (p : ℕ) (rule : Production) → production g p ≡ Some rule
        → (a : ℕ) → IsNextFollowIn nullable first follow b rule.left rule.right a → IsFollow g a b
    next_is_follow well reduced follow sound p rule is a next = go (either (begins nullable first b (drop (next.place + 1) rule.right)) (all_vanish nullable (drop (next.place + 1) rule.right) && get_or follow rule.left false) next.comes)
      where
        parts : rule.right ≡ take next.place rule.right ++ Nonterminal a ∷ drop (next.place + 1) rule.right
        parts = parts_of rule.right next.place (Nonterminal a) next.symbol_is

        go : (begins nullable first b (drop (next.place + 1) rule.right) ≡ true) ⊎ ((all_vanish nullable (drop (next.place + 1) rule.right) && get_or follow rule.left false) ≡ true) → IsFollow g a b
        go (inl k) =
            let f = beginning g nullable first b nulls.sound firsts.sound (drop (next.place + 1) rule.right) k in
            let r = front_first g (drop (next.place + 1) rule.right) f.0 b f.1 f.2 in
            behind_follow g well reduced a b r.0 (here p rule (take next.place rule.right) (drop (next.place + 1) rule.right) r.0 r.1 (Nonterminal a) b is parts r.2 r.3)
        go (inr k) =
            let t = both (all_vanish nullable (drop (next.place + 1) rule.right)) (get_or follow rule.left false) k in
            let inner = follow_behind g rule.left b (sound rule.left t.1) in
            behind_follow g well reduced a b (drop (next.place + 1) rule.right ++ inner.0) (through p rule (take next.place rule.right) (drop (next.place + 1) rule.right) inner.0 (Nonterminal a) b is parts (vanishing g nullable nulls.sound (drop (next.place + 1) rule.right) t.0) inner.1)

    pub follow_turn : IsWellFormed g → IsReduced g → (marks : List Bool) (a : ℕ) → length marks ≡ length g.nonterminals
        → ((x : ℕ) → get_or marks x false ≡ true → IsFollow g x b) → IsNextFollow nullable first marks b g.productions a
        → IsTurn (λ x. IsFollow g x b) marks a
    follow_turn well reduced marks a len sound next =
        marking_turn (λ x. IsFollow g x b) marks a (length g.nonterminals) len (all_at (IsSymbol g) next.rule.right next.in_right.place (Nonterminal a) (well.symbols (suc next.number) next.rule next.rule_is) next.in_right.symbol_is) next.in_right.is_new
        (next_is_follow well reduced marks sound (suc next.number) next.rule next.rule_is a next.in_right) sound

    module _ (marks : List Bool) (closed : IsFollowClosed nullable first marks b g.productions) (start : end_mark g ≡ b → get_or marks 0 false ≡ true) where
      place_marked : (p : ℕ) (rule : Production) (before after : List Symbol) (a : ℕ) → production g p ≡ Some rule → rule.right ≡ before ++ Nonterminal a ∷ after
          → comes_behind nullable first marks b rule.left after ≡ true → get_or marks a false ≡ true
      place_marked zero rule before after a is parts comes = absurd (none-some rule is)
      place_marked (suc p) rule before after a is parts comes =
          closed p rule is (length before) a (ap (λ (f : List Symbol). slice_get f (length before)) parts ∙ symbol_at before (Nonterminal a) after)
          (ap (comes_behind nullable first marks b rule.left) (ap (λ (f : List Symbol). drop (length before + 1) f) parts ∙ rest_at before (Nonterminal a) after) ∙ comes)

      behind_marked : (s : Symbol) (c : ℕ) (beta : List Symbol) → Behind g s c beta → c ≡ b → (a : ℕ) → s ≡ Nonterminal a → get_or marks a false ≡ true
      behind_marked _ _ _ (here p rule before after beta rest s c is right_parts parts begin) e a same =
          let f : IsFirst g after b = subst (IsFirst g after) e (subst (λ u. IsFirst g u c) (sym parts) (first_front g c beta rest (begins_first g beta c begin))) in
          place_marked p rule before after a is (right_parts ∙ ap (λ x. before ++ x ∷ after) same)
          (or_left (begins nullable first b after) (all_vanish nullable after && get_or marks rule.left false) (begins_exactly g nullable nulls b first firsts after f))
      behind_marked _ _ _ (through p rule before after beta s c is right_parts none h) e a same =
          place_marked p rule before after a is (right_parts ∙ ap (λ x. before ++ x ∷ after) same)
          (or_right (begins nullable first b after) (all_vanish nullable after && get_or marks rule.left false)
          (and (all_vanish nullable after) (get_or marks rule.left false) (vanishes_exactly g nullable nulls after none) (behind_marked (Nonterminal rule.left) c beta h e rule.left refl)))
      behind_marked _ _ _ of_start e a same = let z : 0 ≡ a = cc in subst (λ (n : ℕ). get_or marks n false ≡ true) z (start e)
      behind_marked _ _ _ (of_begin beta rest c parts begin) e a same = absurd (cc)

      pub follow_marked : (a : ℕ) → IsFollow g a b → get_or marks a false ≡ true
      follow_marked a h = let r = follow_behind g a b h in behind_marked (Nonterminal a) b r.0 r.1 refl a refl
