-- Predicted productions and the least conflict on one terminal, found one production after the other.
use Rattle.std.proofs.Common.{◌≡◌, ◌≢◌, ℕ, ◌+◌, ◌<◌, ◌≤◌, ◌⊎◌, inl, inr, List, length, set, length-set, get_or, get_or-set_same, get_or-set_other, Option, Some, None, refl, sym, ap, ◌∙◌, subst, arith}
use Rattle.std.proofs.lemmas.Bool.{cases_lt, cases_eq}
use Rattle.std.proofs.lemmas.Option.{none-some, same_Some}
use Rattle.grammar_file.specs.Grammar.{Grammar, Production}
use Rattle.ll1_sets.specs.Predict.{IsPredicted, ArePredictions, HasConflict}
use Rattle.ll1_sets.specs.declared.conflicts.Conflict.{Conflict}
use Rattle.ll1_sets.specs.Conflicts.{AreTwoLeast, LeastOn, HasNoConflictTo, LeastTo, ArePredictedTo}
use Rattle.ll1_sets.proofs.PredictSets.{predicted_number}

module _ (g : Grammar) (b : ℕ) where
  pub predicted_none : (predictions : List (Option ℕ)) → length predictions ≡ length g.nonterminals → ((a : ℕ) → get_or predictions a None ≡ None) → ArePredictedTo g 0 b predictions None
  predicted_none predictions len none =
      record {
        len = len;
        sound = λ a p h. absurd (none-some p (sym (none a) ∙ h));
        complete = λ a p l h. let positive = (predicted_number g a p b h).0 in absurd (omega arith);
        least = λ a p q l m h k. let positive = (predicted_number g a p b h).0 in absurd (omega arith);
      }

  -- a production is one of a single nonterminal
  pub same_left : (a c p : ℕ) → IsPredicted g a p b → IsPredicted g c p b → a ≡ c
  same_left a c p h k = sym h.2 ∙ (ap (λ (r : Production). r.left) (same_Some h.0 k.0 (sym h.1 ∙ k.1)) ∙ k.2)

  module _ (n : ℕ) where
    -- of the first n + 1 productions, one of the first n or the last
    last_or_less : (p : ℕ) → p ≤ n + 1 → (p ≡ n + 1) ⊎ (p ≤ n)
    last_or_less p l = go (cases_lt n p)
      where
        go : (n < p) ⊎ (p ≤ n) → (p ≡ n + 1) ⊎ (p ≤ n)
        go (inl m) = inl (omega arith)
        go (inr m) = inr m

    -- where the last one isn't predicted of a, nothing changes for a
    pub none_more : (a : ℕ) → ¬ IsPredicted g a (n + 1) b → (p : ℕ) → p ≤ n + 1 → IsPredicted g a p b → p ≤ n
    none_more a other p l h = go (last_or_less p l)
      where
        go : (p ≡ n + 1) ⊎ (p ≤ n) → p ≤ n
        go (inl e) = absurd (other (subst (λ t. IsPredicted g a t b) e h))
        go (inr m) = m

    pub no_conflict_on : (a : ℕ) → ¬ IsPredicted g a (n + 1) b → HasNoConflictTo g n a b → HasNoConflictTo g (n + 1) a b
    no_conflict_on a other clean p q l m h k = clean p q (none_more a other p l h) (none_more a other q m k) h k

    -- where no nonterminal has a conflict that it didn't have, the least one stays
    pub least_stays : (conflict : Option Conflict) → ((a : ℕ) → HasNoConflictTo g n a b → HasNoConflictTo g (n + 1) a b) → LeastTo g n b conflict → LeastTo g (n + 1) b conflict
    least_stays None on h = λ a. on a (h a)
    least_stays (Some k) on h = record { on = h.on; pair = h.pair; no_lesser_nonterminal = λ a l. on a (h.no_lesser_nonterminal a l) }

    -- nonterminals up to a have no conflict where the least one is of a greater one
    pub clean_to : (conflict : Option Conflict) (a : ℕ) → ((k : Conflict) → conflict ≡ Some k → a < k.nonterminal) → LeastTo g n b conflict → (c : ℕ) → c ≤ a → HasNoConflictTo g n c b
    clean_to None a greater h c l = h c
    clean_to (Some k) a greater h c l = let m = greater k refl in h.no_lesser_nonterminal c (omega arith)

    module _ (predictions : List (Option ℕ)) (conflict : Option Conflict) (h : ArePredictedTo g n b predictions conflict) where
      pub predicted_no : ((a : ℕ) → ¬ IsPredicted g a (n + 1) b) → ArePredictedTo g (n + 1) b predictions conflict
      predicted_no other =
          record {
            len = h.len;
            sound = λ a p k. let s = h.sound a p k in (let l = s.0 in omega arith, s.1);
            complete = λ a p l k. h.complete a p (none_more a (other a) p l k) k;
            least = least_stays conflict (λ a. no_conflict_on a (other a)) h.least;
          }

      module _ (a : ℕ) (here : IsPredicted g a (n + 1) b) where
        other_left : (c : ℕ) → c ≢ a → ¬ IsPredicted g c (n + 1) b
        other_left c other k = other (same_left c a (n + 1) k here)

        -- it is the first one that is predicted of a
        pub predicted_first : a < length predictions → get_or predictions a None ≡ None → ArePredictedTo g (n + 1) b (set predictions a (Some (n + 1))) conflict
        predicted_first within new = record { len = length-set predictions a (Some (n + 1)) ∙ h.len; sound = sound; complete = complete; least = least_stays conflict clean h.least }
          where
            same : get_or (set predictions a (Some (n + 1))) a None ≡ Some (n + 1)
            same = get_or-set_same predictions a (Some (n + 1)) None within

            none : (p : ℕ) → p ≤ n → ¬ IsPredicted g a p b
            none p l k = let t = h.complete a p l k in none-some t.0 (sym new ∙ t.1)

            sound : (c p : ℕ) → get_or (set predictions a (Some (n + 1))) c None ≡ Some p → (p ≤ n + 1) × IsPredicted g c p b
            sound c p k = go (cases_eq c a)
              where
                go : (c ≡ a) ⊎ (c ≡ a → ⊥) → (p ≤ n + 1) × IsPredicted g c p b
                go (inl e) =
                    let number : n + 1 ≡ p = same_Some (n + 1) p (sym same ∙ (ap (λ t. get_or (set predictions a (Some (n + 1))) t None) (sym e) ∙ k)) in
                    (omega arith, subst (λ t. IsPredicted g t p b) (sym e) (subst (λ t. IsPredicted g a t b) number here))
                go (inr other) = let s = h.sound c p (sym (get_or-set_other predictions a c (Some (n + 1)) None other) ∙ k) in (let l = s.0 in omega arith, s.1)

            complete : (c p : ℕ) → p ≤ n + 1 → IsPredicted g c p b → (q : ℕ) × (get_or (set predictions a (Some (n + 1))) c None ≡ Some q)
            complete c p l k = go (cases_eq c a)
              where
                go : (c ≡ a) ⊎ (c ≡ a → ⊥) → (q : ℕ) × (get_or (set predictions a (Some (n + 1))) c None ≡ Some q)
                go (inl e) = (n + 1, ap (λ t. get_or (set predictions a (Some (n + 1))) t None) e ∙ same)
                go (inr other) = let old = h.complete c p (none_more c (other_left c other) p l k) k in (old.0, get_or-set_other predictions a c (Some (n + 1)) None other ∙ old.1)

            only : (p : ℕ) → p ≤ n + 1 → IsPredicted g a p b → p ≡ n + 1
            only p l k = go (last_or_less p l)
              where
                go : (p ≡ n + 1) ⊎ (p ≤ n) → p ≡ n + 1
                go (inl e) = e
                go (inr m) = absurd (none p m k)

            clean : (c : ℕ) → HasNoConflictTo g n c b → HasNoConflictTo g (n + 1) c b
            clean c before = go (cases_eq c a)
              where
                go : (c ≡ a) ⊎ (c ≡ a → ⊥) → HasNoConflictTo g (n + 1) c b
                go (inl e) = subst (λ t. HasNoConflictTo g (n + 1) t b) (sym e) (λ p q l m i k. only p l i ∙ sym (only q m k))
                go (inr other) = no_conflict_on c (other_left c other) before

        -- it isn't the first one
        module _ (p1 : ℕ) (old : get_or predictions a None ≡ Some p1) where
          again : (o : Option Conflict) → LeastTo g (n + 1) b o → ArePredictedTo g (n + 1) b predictions o
          again o least =
              record {
                len = h.len;
                sound = λ c p k. let s = h.sound c p k in (let l = s.0 in omega arith, s.1);
                complete = complete;
                least = least;
              }
            where
              complete : (c p : ℕ) → p ≤ n + 1 → IsPredicted g c p b → (q : ℕ) × (get_or predictions c None ≡ Some q)
              complete c p l k = go (cases_eq c a)
                where
                  go : (c ≡ a) ⊎ (c ≡ a → ⊥) → (q : ℕ) × (get_or predictions c None ≡ Some q)
                  go (inl e) = (p1, ap (λ t. get_or predictions t None) e ∙ old)
                  go (inr other) = h.complete c p (none_more c (other_left c other) p l k) k

          -- and there is a conflict of a, or of a lesser nonterminal
          pub predicted_settled : (k : Conflict) → conflict ≡ Some k → k.nonterminal ≤ a → ArePredictedTo g (n + 1) b predictions conflict
          predicted_settled k is lesser = again conflict (subst (LeastTo g (n + 1) b) (sym is) (kept (subst (LeastTo g n b) is h.least)))
            where
              kept : LeastTo g n b (Some k) → LeastTo g (n + 1) b (Some k)
              kept least = record { on = least.on; pair = least.pair; no_lesser_nonterminal = λ c l. no_conflict_on c (other_left c (λ e. absurd (omega (arith, e, l, lesser)))) (least.no_lesser_nonterminal c l) }

          -- or there is none yet
          pub predicted_again : ((k : Conflict) → conflict ≡ Some k → a < k.nonterminal) → ArePredictedTo g (n + 1) b predictions (Some (record { nonterminal = a; b = b; p1 = p1; p2 = n + 1 }))
          predicted_again greater = again (Some (record { nonterminal = a; b = b; p1 = p1; p2 = n + 1 })) (record { on = refl; pair = pair; no_lesser_nonterminal = lesser })
            where
              first : (p1 ≤ n) × IsPredicted g a p1 b
              first = h.sound a p1 old

              clean : (c : ℕ) → c ≤ a → HasNoConflictTo g n c b
              clean = clean_to conflict a greater h.least

              pair : AreTwoLeast g a b p1 (n + 1)
              pair = record { first = first.1; second = here; in_order = (let l = first.0 in omega arith); no_lesser_production = λ p k other. go p k other (cases_lt n p) }
                where
                  go : (p : ℕ) → IsPredicted g a p b → p ≢ p1 → (n < p) ⊎ (p ≤ n) → n + 1 ≤ p
                  go p k other (inl l) = omega arith
                  go p k other (inr l) = absurd (other (clean a (omega arith) p p1 l first.0 k first.1))

              lesser : (c : ℕ) → c < a → HasNoConflictTo g (n + 1) c b
              lesser c l = no_conflict_on c (other_left c (λ e. absurd (omega (arith, e, l)))) (clean c (omega arith))

    -- ---- all productions

    module _ (enough : length g.productions ≤ n) where
      number_within : (a p : ℕ) → IsPredicted g a p b → p ≤ n
      number_within a p h = let number = (predicted_number g a p b h).1 in omega arith

      pub predictions_all : (predictions : List (Option ℕ)) (conflict : Option Conflict) → ArePredictedTo g n b predictions conflict → ArePredictions g b predictions
      predictions_all predictions conflict h = record { sound = λ a p k. (h.sound a p k).1; complete = λ a p k. h.complete a p (number_within a p k) k }

      no_conflict : (a : ℕ) → HasNoConflictTo g n a b → ¬ HasConflict g a b
      no_conflict a clean h = h.2 (clean h.0 h.1 (number_within a h.0 h.3) (number_within a h.1 h.4) h.3 h.4)

      pub least_all : (conflict : Option Conflict) → LeastTo g n b conflict → LeastOn g b conflict
      least_all None h = λ a. no_conflict a (h a)
      least_all (Some k) h = record { on = h.on; pair = h.pair; no_lesser_nonterminal = λ a l. no_conflict a (h.no_lesser_nonterminal a l) }
