-- Each step of the boards keeps them sound.
use Rattle.std.proofs.Common.{◌≡◌, ◌≢◌, ℕ, zero, suc, ◌+◌, ◌<◌, ◌≤◌, min, ◌⊎◌, inl, inr, ⊎_elim, List, [], ◌∷◌, ◌++◌, length, get_or, set, map, Bool, true, false, cond, eqb, ltb, sym, refl, ap, ◌∙◌, subst, arith, length-append, length-set, get_or-set_same, get_or-set_other, ◌&&◌, ◌||◌, not, leb, eq-eqb}
use Rattle.std.proofs.lemmas.Bool.{ltb-true, ltb-false, lt-ltb, leb-true}
use mathlib.Core.Logic.{dite}
use native.Mathlib.Decide.{ℕ_discrete, dec_lt}
use Rattle.chunk_seats.specs.Tallies.{total, one, times}
use Rattle.board_core.specs.declared.steps.Event.{Event}
use Rattle.board_core.specs.declared.steps.Event.TheVariants.{Claim, Done, Show, Look, Seal, Split, Join}
use Rattle.board_core.specs.declared.steps.Status.{Status}
use Rattle.board_core.specs.declared.steps.Status.TheVariants.{X, A, P}
use Rattle.word_monoid.specs.Monoid.{Ops}
use Rattle.board_core.specs.State.{Seat, State, fresh, gone, seat_at, with_seat}
use Rattle.board_core.specs.Steps.{finishing, showing, sealing, looking, giving, joining}
use Rattle.board_core.specs.Schedules.{is_lawful, does, play, play_all, start, is_orderly, all_orderly, through}
use Rattle.board_core.specs.Sound.{Each, IsPublished, IsSealed, status_of, IsHand, IsOrderly, IsOrdered, IsTrueOf, IsSeen, IsLooker, IsSound, IsLast, ClaimsAll, FinishesAll}
use Rattle.board_core.specs.Laws.Lists.{total-set, total-snoc, total-two, inside, total-le, each-set, each-snoc, times-append, one-same, one-other, by_bool, by_lt, total-join, joined_share, total-whole, once_length}

module _ {I : Type 0} (ops : Ops I) (sums : List I) (seats : ℕ) where
  abbrev Sound : State I → Type 0
  Sound = IsSound ops sums seats

  -- the shares come to no more than the weights
  pub shares_below : (c : State I) → Sound c → total (λ s. s.share) c.seats ≤ seats
  shares_below c r =
      let le = total-le (λ (s : Seat I). s.share) (λ (s : Seat I). s.weight) c.seats gone
      (λ i. ⊎_elim (λ e. let z : (seat_at c i).share ≡ 0 = e in omega arith) (λ e. let z : (seat_at c i).share ≡ (seat_at c i).weight = e in omega arith) (r.hands i).share_is) in
      let w = r.weights in omega arith

  -- a seat of some weight is in the list
  seated : (c : State I) (a : ℕ) → 0 < (seat_at c a).weight → a < length c.seats
  seated c a there = inside (λ (s : Seat I). s.weight) c.seats a gone refl there

  later_hand : (n m : ℕ) (s : Seat I) → n ≤ m → IsHand (length sums) n s → IsHand (length sums) m s
  later_hand n m s le h = record { share_is = h.share_is; spent = λ e p. let q = h.spent e p in omega arith; gone = h.gone; done_claimed = h.done_claimed }

  claim_some : (c : State I) (a : ℕ) → Sound c → 0 < (seat_at c a).weight → 0 < (seat_at c a).share → c.counter < length sums
      → Sound (record (with_seat c a (record (seat_at c a) { claimed = (seat_at c a).claimed ++ c.counter ∷ [] })) { counter = c.counter + 1 })
  claim_some c a r there unspent small =
      let s : Seat I = seat_at c a in
      let w : Seat I = record s { claimed = s.claimed ++ c.counter ∷ [] } in
      let in_list : a < length c.seats = seated c a there in
      let h = r.hands a in
      let more : (n : ℕ) → times n w.claimed ≡ times n s.claimed + (one n c.counter + 0) = λ n. times-append n s.claimed (c.counter ∷ []) in
      record {
        room = let e = total-set (λ (t : Seat I). t.share) c.seats a w gone in_list in let b = shares_below c r in omega arith;
        weights = let e = total-set (λ (t : Seat I). t.weight) c.seats a w gone in_list in let b = r.weights in omega arith;
        claimed_once = λ n. let e = total-set (λ (t : Seat I). times n t.claimed) c.seats a w gone in_list in let m = more n in let o = r.claimed_once n in
            dite (ℕ_discrete c.counter n)
            (λ same. let hit : one n c.counter ≡ 1 = ap (one n) same ∙ one-same n in let none = o.1 (omega arith) in ((λ _. omega arith), λ above. absurd (omega arith)))
            (λ other. let miss : one n c.counter ≡ 0 = one-other n c.counter other in
            ((λ below. let old = o.0 (omega arith) in omega arith), λ above. let old = o.1 (omega arith) in omega arith));
        finished = let e = total-set (λ (t : Seat I). length t.done) c.seats a w gone in_list in let b = r.finished in omega arith;
        hands = each-set (λ _. IsHand (length sums) (c.counter + 1)) c.seats a w gone
            (record { share_is = h.share_is; spent = λ e p. absurd (omega arith); gone = λ e. absurd (omega arith); done_claimed = λ n. let m = more n in let d = h.done_claimed n in omega arith })
            (λ b. later_hand c.counter (c.counter + 1) (seat_at c b) (omega arith) (r.hands b));
        wide = r.wide;
        statuses = r.statuses;
        lookers = let l = r.lookers a in each-set (λ _. IsLooker ops sums c.statuses) c.seats a w gone (record { shown = l.shown; sealed = l.sealed; looked = l.looked }) r.lookers;
      }

  claim_none : (c : State I) (a : ℕ) → Sound c → 0 < (seat_at c a).weight → 0 < (seat_at c a).share → length sums ≤ c.counter
      → Sound (record (with_seat c a (record (seat_at c a) { share = 0 })) { counter = c.counter + 1 })
  claim_none c a r there unspent large =
      let s : Seat I = seat_at c a in
      let w : Seat I = record s { share = 0 } in
      let in_list : a < length c.seats = seated c a there in
      let h = r.hands a in
      record {
        room = let e = total-set (λ (t : Seat I). t.share) c.seats a w gone in_list in let b = r.room in omega arith;
        weights = let e = total-set (λ (t : Seat I). t.weight) c.seats a w gone in_list in let b = r.weights in omega arith;
        claimed_once = λ n. let e = total-set (λ (t : Seat I). times n t.claimed) c.seats a w gone in_list in let o = r.claimed_once n in
            ((λ below. let old = o.0 (omega arith) in omega arith), λ above. let old = o.1 (omega arith) in omega arith);
        finished = let e = total-set (λ (t : Seat I). length t.done) c.seats a w gone in_list in let b = r.finished in omega arith;
        hands = each-set (λ _. IsHand (length sums) (c.counter + 1)) c.seats a w gone
            (record { share_is = inl refl; spent = λ e p. omega arith; gone = λ e. absurd (omega arith); done_claimed = h.done_claimed })
            (λ b. later_hand c.counter (c.counter + 1) (seat_at c b) (omega arith) (r.hands b));
        wide = r.wide;
        statuses = r.statuses;
        lookers = let l = r.lookers a in each-set (λ _. IsLooker ops sums c.statuses) c.seats a w gone (record { shown = l.shown; sealed = l.sealed; looked = l.looked }) r.lookers;
      }

  pub claim_keeps : (c : State I) (a : ℕ) → Sound c → 0 < (seat_at c a).weight → 0 < (seat_at c a).share → Sound (does ops sums c (Claim a))
  claim_keeps c a r there unspent = by_lt c.counter (length sums)
      (λ b. Sound (record (with_seat c a (cond b (record (seat_at c a) { claimed = (seat_at c a).claimed ++ c.counter ∷ [] }) (record (seat_at c a) { share = 0 }))) { counter = c.counter + 1 }))
      (claim_some c a r there unspent) (claim_none c a r there unspent)

  done_keeps : (c : State I) (a n : ℕ) → Sound c → 0 < (seat_at c a).weight → 0 < times n (seat_at c a).claimed → times n (seat_at c a).done ≡ 0 → Sound (does ops sums c (Done a n))
  done_keeps c a n r there claimed once =
      let s : Seat I = seat_at c a in
      let w : Seat I = finishing n s in
      let in_list : a < length c.seats = seated c a there in
      let h = r.hands a in
      let l = r.lookers a in
      record {
        room = let e = total-set (λ (t : Seat I). t.share) c.seats a w gone in_list in let b = r.room in omega arith;
        weights = let e = total-set (λ (t : Seat I). t.weight) c.seats a w gone in_list in let b = r.weights in omega arith;
        claimed_once = λ m. let e = total-set (λ (t : Seat I). times m t.claimed) c.seats a w gone in_list in let o = r.claimed_once m in
            ((λ below. let old = o.0 below in omega arith), λ above. let old = o.1 above in omega arith);
        finished = let e = total-set (λ (t : Seat I). length t.done) c.seats a w gone in_list in let b = r.finished in let long : length w.done ≡ length s.done + 1 = length-append s.done (n ∷ []) in omega arith;
        hands = each-set (λ _. IsHand (length sums) c.counter) c.seats a w gone
            (record {
              share_is = h.share_is;
              spent = h.spent;
              gone = λ e. absurd (omega arith);
              done_claimed = λ m. let d = h.done_claimed m in let more : times m w.done ≡ times m s.done + (one m n + 0) = times-append m s.done (n ∷ []) in
                  dite (ℕ_discrete n m)
                  (λ same. let hit : one m n ≡ 1 = ap (one m) same ∙ one-same m in let none : times m s.done ≡ 0 = ap (λ (z : ℕ). times z s.done) (sym same) ∙ once in let some : 0 < times m s.claimed = subst (λ (z : ℕ). 0 < times z s.claimed) same claimed in omega arith)
                  (λ other. let miss : one m n ≡ 0 = one-other m n other in omega arith);
            })
            r.hands;
        wide = r.wide;
        statuses = r.statuses;
        lookers = each-set (λ _. IsLooker ops sums c.statuses) c.seats a w gone (record { shown = l.shown; sealed = l.sealed; looked = l.looked }) r.lookers;
      }

  -- ---- what is published stays published

  abbrev Stays : List (Status I) → List (Status I) → Type 0
  Stays old new = (j : ℕ) → IsPublished (status_of old j) → IsPublished (status_of new j)

  stays-set : (st : List (Status I)) (n : ℕ) (v : Status I) → IsPublished v → Stays st (set st n v)
  stays-set st n v p = each-set (λ j x. IsPublished (status_of st j) → IsPublished x) st n v X (λ _. p) (λ j q. q)

  each-weaker : {B : Type 0} (Q R : B → Type 0) → ((x : B) → Q x → R x) → (xs : List B) → Each Q xs → Each R xs
  each-weaker Q R f [] h = tt
  each-weaker Q R f (x ∷ xs) h = (f x h.0, each-weaker Q R f xs h.1)

  each-append : {B : Type 0} (Q : B → Type 0) (xs ys : List B) → Each Q xs → Each Q ys → Each Q (xs ++ ys)
  each-append Q [] ys h k = k
  each-append Q (x ∷ xs) ys h k = (h.0, each-append Q xs ys h.1 k)

  later_looker : (old new : List (Status I)) → Stays old new → (s : Seat I) → IsLooker ops sums old s → IsLooker ops sums new s
  later_looker old new stays s l = record {
    shown = λ n h. stays n (l.shown n h);
    sealed = l.sealed;
    looked = each-weaker (IsSeen ops sums old) (IsSeen ops sums new) (λ p q. (q.0, λ x. stays p.0 (q.1 x))) s.looked l.looked;
  }

  published_inside : (st : List (Status I)) (n : ℕ) → IsPublished (status_of st n) → n < length st
  published_inside [] n h = absurd h
  published_inside (x ∷ xs) zero h = omega arith
  published_inside (x ∷ xs) (suc n) h = let r = published_inside xs n h in omega arith

  -- ---- a step that changes nothing of a seat's claims

  -- the seat w has the claims of s
  pub record SameClaims (s w : Seat I) : Type 0 where
    pub share : w.share ≡ s.share
    pub weight : w.weight ≡ s.weight
    pub claimed : w.claimed ≡ s.claimed
    pub done : w.done ≡ s.done

  published : (c : State I) (a : ℕ) (w : Seat I) (st : List (Status I)) → Sound c → 0 < (seat_at c a).weight → SameClaims (seat_at c a) w → length st ≡ length c.statuses
      → ((j : ℕ) → IsTrueOf ops sums j (status_of st j)) → Stays c.statuses st → IsLooker ops sums st w → Sound (record { counter = c.counter; finished = c.finished; statuses = st; seats = set c.seats a w })
  published c a w st r there same wide right stays mine =
      let s : Seat I = seat_at c a in
      let in_list : a < length c.seats = seated c a there in
      let h = r.hands a in
      let share_is = same.share in
      let weight_is = same.weight in
      record {
        room = let e = total-set (λ (t : Seat I). t.share) c.seats a w gone in_list in let b = r.room in omega arith;
        weights = let e = total-set (λ (t : Seat I). t.weight) c.seats a w gone in_list in let b = r.weights in omega arith;
        claimed_once = λ m. let e = total-set (λ (t : Seat I). times m t.claimed) c.seats a w gone in_list in let o = r.claimed_once m in let z : times m w.claimed ≡ times m s.claimed = ap (times m) same.claimed in
            ((λ below. let old = o.0 below in omega arith), λ above. let old = o.1 above in omega arith);
        finished = let e = total-set (λ (t : Seat I). length t.done) c.seats a w gone in_list in let b = r.finished in let z : length w.done ≡ length s.done = ap length same.done in omega arith;
        hands = each-set (λ _. IsHand (length sums) c.counter) c.seats a w gone
            (record {
              share_is = ⊎_elim (λ e. inl (same.share ∙ e)) (λ e. inr (same.share ∙ (e ∙ sym same.weight))) h.share_is;
              spent = λ e p. h.spent (sym same.share ∙ e) (omega arith);
              gone = λ e. absurd (omega arith);
              done_claimed = λ m. let d = h.done_claimed m in let z : times m w.claimed ≡ times m s.claimed = ap (times m) same.claimed in let y : times m w.done ≡ times m s.done = ap (times m) same.done in omega arith;
            })
            r.hands;
        wide = wide ∙ r.wide;
        statuses = right;
        lookers = each-set (λ _. IsLooker ops sums st) c.seats a w gone mine (λ b. later_looker c.statuses st stays (seat_at c b) (r.lookers b));
      }

  show_keeps : (c : State I) (a n : ℕ) → Sound c → 0 < (seat_at c a).weight → n < length sums → Sound (does ops sums c (Show a n))
  show_keeps c a n r there small =
      let s : Seat I = seat_at c a in
      let v : Status I = A (get_or sums n ops.unit) in
      let st : List (Status I) = set c.statuses n v in
      let stays : Stays c.statuses st = stays-set c.statuses n v tt in
      let l = later_looker c.statuses st stays s (r.lookers a) in
      let wide = r.wide in
      published c a (showing n s) st r there (record { share = refl; weight = refl; claimed = refl; done = refl }) (length-set c.statuses n v)
      (each-set (λ j x. IsTrueOf ops sums j x) c.statuses n v X refl r.statuses) stays
      (record {
        shown = λ m h. let more : times m (showing n s).shown ≡ times m s.shown + (one m n + 0) = times-append m s.shown (n ∷ []) in
            dite (ℕ_discrete n m)
            (λ same. subst (λ (z : ℕ). IsPublished (status_of st z)) same (subst IsPublished (sym (get_or-set_same c.statuses n v X (omega arith))) tt))
            (λ other. let miss : one m n ≡ 0 = one-other m n other in l.shown m (omega arith));
        sealed = λ m h. let more : times m (showing n s).shown ≡ times m s.shown + (one m n + 0) = times-append m s.shown (n ∷ []) in let old = l.sealed m h in omega arith;
        looked = l.looked;
      })

  seal_keeps : (c : State I) (a n : ℕ) → Sound c → 0 < (seat_at c a).weight → 0 < times n (seat_at c a).shown → Sound (does ops sums c (Seal a n))
  seal_keeps c a n r there shown =
      let s : Seat I = seat_at c a in
      let v : Status I = P (through ops sums n) in
      let st : List (Status I) = set c.statuses n v in
      let stays : Stays c.statuses st = stays-set c.statuses n v tt in
      let l = later_looker c.statuses st stays s (r.lookers a) in
      published c a (sealing n s) st r there (record { share = refl; weight = refl; claimed = refl; done = refl }) (length-set c.statuses n v)
      (each-set (λ j x. IsTrueOf ops sums j x) c.statuses n v X refl r.statuses) stays
      (record {
        shown = l.shown;
        sealed = λ m h. let more : times m (sealing n s).sealed ≡ times m s.sealed + (one m n + 0) = times-append m s.sealed (n ∷ []) in
            dite (ℕ_discrete n m)
            (λ same. subst (λ (z : ℕ). 0 < times z s.shown) same shown)
            (λ other. let miss : one m n ≡ 0 = one-other m n other in l.sealed m (omega arith));
        looked = l.looked;
      })

  look_keeps : (c : State I) (a j : ℕ) → Sound c → 0 < (seat_at c a).weight → Sound (does ops sums c (Look a j))
  look_keeps c a j r there =
      let s : Seat I = seat_at c a in
      let l = r.lookers a in
      published c a (looking j (status_of c.statuses j) s) c.statuses r there (record { share = refl; weight = refl; claimed = refl; done = refl }) refl r.statuses (λ k q. q)
      (record {
        shown = l.shown;
        sealed = l.sealed;
        looked = each-append (IsSeen ops sums c.statuses) s.looked ((j, status_of c.statuses j) ∷ []) l.looked ((r.statuses j, λ q. q), tt);
      })

  split_keeps : (c : State I) (a n : ℕ) → Sound c → 0 < (seat_at c a).weight → 1 ≤ n → n < (seat_at c a).share → Sound (does ops sums c (Split a n))
  split_keeps c a n r there some part =
      let s : Seat I = seat_at c a in
      let w : Seat I = giving n s in
      let in_list : a < length c.seats = seated c a there in
      let h = r.hands a in
      let l = r.lookers a in
      let whole : s.share ≡ s.weight = ⊎_elim (λ e. absurd (omega arith)) (λ e. e) h.share_is in
      record {
        room = let e = total-set (λ (t : Seat I). t.share) c.seats a w gone in_list in let f = total-snoc (λ (t : Seat I). t.share) (set c.seats a w) (fresh n) in let b = r.room in omega arith;
        weights = let e = total-set (λ (t : Seat I). t.weight) c.seats a w gone in_list in let f = total-snoc (λ (t : Seat I). t.weight) (set c.seats a w) (fresh n) in let b = r.weights in omega arith;
        claimed_once = λ m. let e = total-set (λ (t : Seat I). times m t.claimed) c.seats a w gone in_list in let f = total-snoc (λ (t : Seat I). times m t.claimed) (set c.seats a w) (fresh n) in let o = r.claimed_once m in
            ((λ below. let old = o.0 below in omega arith), λ above. let old = o.1 above in omega arith);
        finished = let e = total-set (λ (t : Seat I). length t.done) c.seats a w gone in_list in let f = total-snoc (λ (t : Seat I). length t.done) (set c.seats a w) (fresh n) in let b = r.finished in omega arith;
        hands = each-snoc (IsHand (length sums) c.counter) (set c.seats a w) (fresh n) gone
            (record { share_is = inr refl; spent = λ e p. absurd (omega arith); gone = λ e. (refl, refl); done_claimed = λ m. omega arith })
            (each-set (λ _. IsHand (length sums) c.counter) c.seats a w gone
            (record { share_is = inr (omega arith); spent = λ e p. absurd (omega arith); gone = λ e. absurd (omega arith); done_claimed = h.done_claimed }) r.hands);
        wide = r.wide;
        statuses = r.statuses;
        lookers = each-snoc (IsLooker ops sums c.statuses) (set c.seats a w) (fresh n) gone
            (record { shown = λ m e. absurd (omega arith); sealed = λ m e. absurd (omega arith); looked = tt })
            (each-set (λ _. IsLooker ops sums c.statuses) c.seats a w gone (record { shown = l.shown; sealed = l.sealed; looked = l.looked }) r.lookers);
      }

  join_keeps : (c : State I) (a b : ℕ) → Sound c → 0 < (seat_at c a).weight → 0 < (seat_at c b).weight → a ≢ b → Sound (does ops sums c (Join a b))
  join_keeps c a b r there here other =
      let s : Seat I = seat_at c a in
      let t : Seat I = seat_at c b in
      let w : Seat I = joining s t in
      let p : a < length c.seats = seated c a there in
      let q : b < length c.seats = seated c b here in
      let h = r.hands a in
      let k = r.hands b in
      let l = r.lookers a in
      let m = r.lookers b in
      let shares = joined_share s.share t.share in
      let share_below : w.share ≤ s.share + t.share = ⊎_elim (λ (e : (w.share ≡ 0) × ((s.share ≡ 0) ⊎ (t.share ≡ 0))). let z = e.0 in omega arith) (λ (e : (w.share ≡ s.share + t.share) × (0 < s.share) × (0 < t.share)). let z = e.0 in omega arith) shares in
      record {
        room = let e = total-join (λ (x : Seat I). x.share) c.seats a b w gone refl other p q in let z = r.room in omega arith;
        weights = let e = total-join (λ (x : Seat I). x.weight) c.seats a b w gone refl other p q in let z = r.weights in omega arith;
        claimed_once = λ n. let e = total-join (λ (x : Seat I). times n x.claimed) c.seats a b w gone refl other p q in let y : times n w.claimed ≡ times n s.claimed + times n t.claimed = times-append n s.claimed t.claimed in let o = r.claimed_once n in
            ((λ below. let old = o.0 below in omega arith), λ above. let old = o.1 above in omega arith);
        finished = let e = total-join (λ (x : Seat I). length x.done) c.seats a b w gone refl other p q in let y : length w.done ≡ length s.done + length t.done = length-append s.done t.done in let z = r.finished in omega arith;
        hands = each-set (λ _. IsHand (length sums) c.counter) (set c.seats a w) b gone gone
            (record { share_is = inl refl; spent = λ e f. absurd (omega arith); gone = λ e. (refl, refl); done_claimed = λ n. omega arith })
            (each-set (λ _. IsHand (length sums) c.counter) c.seats a w gone
            (record {
              share_is = ⊎_elim (λ (e : (w.share ≡ 0) × ((s.share ≡ 0) ⊎ (t.share ≡ 0))). inl e.0)
                  (λ (e : (w.share ≡ s.share + t.share) × (0 < s.share) × (0 < t.share)).
                  let x : s.share ≡ s.weight = ⊎_elim (λ z. absurd (omega (arith, e.1))) (λ z. z) h.share_is in
                  let y : t.share ≡ t.weight = ⊎_elim (λ z. absurd (omega (arith, e.2))) (λ z. z) k.share_is in
                  inr (omega (arith, e.0))) shares;
              spent = λ z f. ⊎_elim
                  (λ (e : (w.share ≡ 0) × ((s.share ≡ 0) ⊎ (t.share ≡ 0))). ⊎_elim (λ x. h.spent x there) (λ x. k.spent x here) e.1)
                  (λ (e : (w.share ≡ s.share + t.share) × (0 < s.share) × (0 < t.share)). absurd (omega (arith, e.0, e.1))) shares;
              gone = λ e. absurd (omega arith);
              done_claimed = λ n. let x = h.done_claimed n in let y = k.done_claimed n in let u : times n w.claimed ≡ times n s.claimed + times n t.claimed = times-append n s.claimed t.claimed in let v : times n w.done ≡ times n s.done + times n t.done = times-append n s.done t.done in omega arith;
            }) r.hands);
        wide = r.wide;
        statuses = r.statuses;
        lookers = each-set (λ _. IsLooker ops sums c.statuses) (set c.seats a w) b gone gone
            (record { shown = λ n e. absurd (omega arith); sealed = λ n e. absurd (omega arith); looked = tt })
            (each-set (λ _. IsLooker ops sums c.statuses) c.seats a w gone
            (record {
              shown = λ n e. let u : times n w.shown ≡ times n s.shown + times n t.shown = times-append n s.shown t.shown in
                  dite (ℕ_discrete (times n s.shown) 0) (λ z. m.shown n (omega arith)) (λ z. l.shown n (omega arith));
              sealed = λ n e. let u : times n w.shown ≡ times n s.shown + times n t.shown = times-append n s.shown t.shown in let v : times n w.sealed ≡ times n s.sealed + times n t.sealed = times-append n s.sealed t.sealed in
                  dite (ℕ_discrete (times n s.sealed) 0) (λ z. let x = m.sealed n (omega arith) in omega arith) (λ z. let x = l.sealed n (omega arith) in omega arith);
              looked = each-append (IsSeen ops sums c.statuses) s.looked t.looked l.looked m.looked;
            }) r.lookers);
      }

  -- ---- one step, and a schedule

  and_both : (a b : Bool) → (a && b) ≡ true → (a ≡ true) × (b ≡ true)
  and_both true b h = (refl, h)
  and_both false b h = absurd (cc)

  not_false : (b : Bool) → not b ≡ true → b ≡ false
  not_false true h = absurd (cc)
  not_false false h = refl

  unspent_share : (share weight : ℕ) → not (eqb share 0 && ltb 0 weight) ≡ true → 0 < weight → 0 < share
  unspent_share zero weight h p = let e : ltb 0 weight ≡ true = lt-ltb 0 weight p in let f : ltb 0 weight ≡ false = not_false (ltb 0 weight) h in absurd (cc)
  unspent_share (suc share) weight h p = omega arith

  none_of : (n : ℕ) (xs : List ℕ) → not (ltb 0 (times n xs)) ≡ true → times n xs ≡ 0
  none_of n xs h = let z = ltb-false 0 (times n xs) (not_false (ltb 0 (times n xs)) h) in omega arith

  pub lawful_keeps : (c : State I) (e : Event) → Sound c → is_lawful ops sums c e ≡ true → Sound (does ops sums c e)
  lawful_keeps c (Claim a) r h = let s : Seat I = seat_at c a in let b = and_both (ltb 0 s.weight) (not (eqb s.share 0 && ltb 0 s.weight)) h in let there : 0 < s.weight = ltb-true 0 s.weight b.0 in
      claim_keeps c a r there (unspent_share s.share s.weight b.1 there)
  lawful_keeps c (Done a n) r h = let s : Seat I = seat_at c a in let b = and_both (ltb 0 s.weight && ltb 0 (times n s.claimed)) (not (ltb 0 (times n s.done))) h in let d = and_both (ltb 0 s.weight) (ltb 0 (times n s.claimed)) b.0 in
      done_keeps c a n r (ltb-true 0 s.weight d.0) (ltb-true 0 (times n s.claimed) d.1) (none_of n s.done b.1)
  lawful_keeps c (Show a n) r h = let s : Seat I = seat_at c a in let b = and_both (ltb 0 s.weight) (ltb n (length sums)) h in show_keeps c a n r (ltb-true 0 s.weight b.0) (ltb-true n (length sums) b.1)
  lawful_keeps c (Look a j) r h = let s : Seat I = seat_at c a in let b = and_both (ltb 0 s.weight) (ltb j (length sums)) h in look_keeps c a j r (ltb-true 0 s.weight b.0)
  lawful_keeps c (Seal a n) r h = let s : Seat I = seat_at c a in let b = and_both (ltb 0 s.weight) (ltb 0 (times n s.shown)) h in seal_keeps c a n r (ltb-true 0 s.weight b.0) (ltb-true 0 (times n s.shown) b.1)
  lawful_keeps c (Split a n) r h = let s : Seat I = seat_at c a in let b = and_both (ltb 0 s.weight && leb 1 n) (ltb n s.share) h in let d = and_both (ltb 0 s.weight) (leb 1 n) b.0 in
      split_keeps c a n r (ltb-true 0 s.weight d.0) (leb-true 1 n d.1) (ltb-true n s.share b.1)
  lawful_keeps c (Join a b) r h = let s : Seat I = seat_at c a in let t : Seat I = seat_at c b in let d = and_both (ltb 0 s.weight && ltb 0 t.weight) (not (eqb a b)) h in let f = and_both (ltb 0 s.weight) (ltb 0 t.weight) d.0 in
      join_keeps c a b r (ltb-true 0 s.weight f.0) (ltb-true 0 t.weight f.1) (λ same. let x : eqb a b ≡ true = eq-eqb a b same in let y : eqb a b ≡ false = not_false (eqb a b) d.1 in absurd (cc))

  pub play_keeps : (c : State I) (e : Event) → Sound c → Sound (play ops sums c e)
  play_keeps c e r = by_bool (is_lawful ops sums c e) (λ b. Sound (cond b (does ops sums c e) c)) (λ h. lawful_keeps c e r h) (λ h. r)

  pub play_all_keeps : (es : List Event) (c : State I) → Sound c → Sound (play_all ops sums c es)
  play_all_keeps [] c r = r
  play_all_keeps (e ∷ es) c r = play_all_keeps es (play ops sums c e) (play_keeps c e r)

  all_none : (xs : List I) (j : ℕ) → status_of {I = I} (map (λ _. X) xs) j ≡ X
  all_none [] j = refl
  all_none (x ∷ xs) zero = refl
  all_none (x ∷ xs) (suc j) = all_none xs j

  as_many : (xs : List I) → length {A = Status I} (map (λ _. X) xs) ≡ length xs
  as_many [] = refl
  as_many (x ∷ xs) = ap suc (as_many xs)

  at_start : (Q : Seat I → Type 0) → Q (fresh seats) → Q gone → (a : ℕ) → Q (seat_at (start ops sums seats) a)
  at_start Q q n zero = q
  at_start Q q n (suc a) = n

  pub start_sound : 0 < seats → Sound (start ops sums seats)
  start_sound some = record {
    room = omega arith;
    weights = omega arith;
    claimed_once = λ n. ((λ below. absurd (omega arith)), λ above. omega arith);
    finished = omega arith;
    hands = at_start (IsHand (length sums) 0)
        (record { share_is = inr refl; spent = λ e p. absurd (omega arith); gone = λ e. (refl, refl); done_claimed = λ n. omega arith })
        (record { share_is = inl refl; spent = λ e p. absurd (omega arith); gone = λ e. (refl, refl); done_claimed = λ n. omega arith });
    wide = as_many sums;
    statuses = λ j. subst (λ (s : Status I). IsTrueOf ops sums j s) (sym (all_none sums j)) tt;
    lookers = at_start (IsLooker ops sums (start ops sums seats).statuses)
        (record { shown = λ m e. absurd (omega arith); sealed = λ m e. absurd (omega arith); looked = tt })
        (record { shown = λ m e. absurd (omega arith); sealed = λ m e. absurd (omega arith); looked = tt });
  }

  pub all_sound : (es : List Event) → 0 < seats → Sound (play_all ops sums (start ops sums seats) es)
  all_sound es some = play_all_keeps es (start ops sums seats) (start_sound some)

  -- ---- orderly steps

  -- what was sealed stays so in these statuses
  abbrev KeepsSeals : State I → List (Status I) → Type 0
  KeepsSeals c st = (b n : ℕ) → 0 < times n (seat_at c b).sealed → IsSealed (status_of st n)

  other_seats : (c : State I) (st : List (Status I)) → IsOrdered c → KeepsSeals c st → (b : ℕ) → IsOrderly st (seat_at c b)
  other_seats c st o k b = record { shown_claimed = (o b).shown_claimed; done_sealed = (o b).done_sealed; sealed_is = λ n h. k b n h }

  put_ordered : (c : State I) (a : ℕ) (w : Seat I) (st : List (Status I)) → IsOrdered c → KeepsSeals c st → IsOrderly st w → (b : ℕ) → IsOrderly st (get_or (set c.seats a w) b gone)
  put_ordered c a w st o k mine = each-set (λ _. IsOrderly st) c.seats a w gone mine (other_seats c st o k)

  same_seals : (c : State I) → IsOrdered c → KeepsSeals c c.statuses
  same_seals c o b n h = (o b).sealed_is n h

  claim_ordered : (c : State I) (a : ℕ) → IsOrdered c → IsOrdered (does ops sums c (Claim a))
  claim_ordered c a o =
      let s : Seat I = seat_at c a in
      by_lt c.counter (length sums)
      (λ b. (d : ℕ) → IsOrderly c.statuses (get_or (set c.seats a (cond b (record s { claimed = s.claimed ++ c.counter ∷ [] }) (record s { share = 0 }))) d gone))
      (λ _. put_ordered c a (record s { claimed = s.claimed ++ c.counter ∷ [] }) c.statuses o (same_seals c o)
      (record { shown_claimed = λ n. let m = times-append n s.claimed (c.counter ∷ []) in let old = (o a).shown_claimed n in omega arith; done_sealed = (o a).done_sealed; sealed_is = (o a).sealed_is }))
      (λ _. put_ordered c a (record s { share = 0 }) c.statuses o (same_seals c o)
      (record { shown_claimed = (o a).shown_claimed; done_sealed = (o a).done_sealed; sealed_is = (o a).sealed_is }))

  done_ordered : (c : State I) (a n : ℕ) → IsOrdered c → 0 < times n (seat_at c a).sealed → IsOrdered (does ops sums c (Done a n))
  done_ordered c a n o sealed =
      let s : Seat I = seat_at c a in
      put_ordered c a (finishing n s) c.statuses o (same_seals c o)
      (record {
        shown_claimed = (o a).shown_claimed;
        done_sealed = λ m h. let more = times-append m s.done (n ∷ []) in
            dite (ℕ_discrete n m) (λ same. subst (λ (z : ℕ). 0 < times z s.sealed) same sealed) (λ other. let miss = one-other m n other in (o a).done_sealed m (omega arith));
        sealed_is = (o a).sealed_is;
      })

  -- no other seat has sealed a chunk that this one has claimed and not shown
  unsealed : (c : State I) (a b n : ℕ) → Sound c → IsOrdered c → 0 < times n (seat_at c a).claimed → times n (seat_at c a).shown ≡ 0 → 0 < times n (seat_at c b).sealed → ⊥
  unsealed c a b n r o claimed hidden sealed =
      let shown : 0 < times n (seat_at c b).shown = (r.lookers b).sealed n sealed in
      let le = (o b).shown_claimed n in
      dite (ℕ_discrete a b)
      (λ same. let z : times n (seat_at c b).shown ≡ 0 = subst (λ (x : ℕ). times n (seat_at c x).shown ≡ 0) same hidden in omega arith)
      (λ other. let two = total-two (λ (t : Seat I). times n t.claimed) c.seats a b gone other refl in
      let once = r.claimed_once n in
      dite (dec_lt n (min c.counter (length sums))) (λ below. let e = once.0 below in omega arith) (λ above. let e = once.1 (omega arith) in omega arith))

  show_ordered : (c : State I) (a n : ℕ) → Sound c → IsOrdered c → 0 < times n (seat_at c a).claimed → times n (seat_at c a).shown ≡ 0 → IsOrdered (does ops sums c (Show a n))
  show_ordered c a n r o claimed hidden =
      let s : Seat I = seat_at c a in
      let v : Status I = A (get_or sums n ops.unit) in
      let st : List (Status I) = set c.statuses n v in
      let k : KeepsSeals c st = λ b m h. let other : m ≢ n = λ same. unsealed c a b n r o claimed hidden (subst (λ (z : ℕ). 0 < times z (seat_at c b).sealed) same h) in
      subst IsSealed (sym (get_or-set_other c.statuses n m v X other)) ((o b).sealed_is m h) in
      put_ordered c a (showing n s) st o k
      (record {
        shown_claimed = λ m. let more = times-append m s.shown (n ∷ []) in let old = (o a).shown_claimed m in
            dite (ℕ_discrete n m)
            (λ same. let hit : one m n ≡ 1 = ap (one m) same ∙ one-same m in let some : 0 < times m s.claimed = subst (λ (z : ℕ). 0 < times z s.claimed) same claimed in let none : times m s.shown ≡ 0 = subst (λ (z : ℕ). times z s.shown ≡ 0) same hidden in omega arith)
            (λ other. let miss = one-other m n other in omega arith);
        done_sealed = (o a).done_sealed;
        sealed_is = λ m h. k a m h;
      })

  seal_ordered : (c : State I) (a n : ℕ) → Sound c → IsOrdered c → 0 < times n (seat_at c a).shown → IsOrdered (does ops sums c (Seal a n))
  seal_ordered c a n r o shown =
      let s : Seat I = seat_at c a in
      let v : Status I = P (through ops sums n) in
      let st : List (Status I) = set c.statuses n v in
      let inside_list : n < length c.statuses = published_inside c.statuses n ((r.lookers a).shown n shown) in
      let here : IsSealed (status_of st n) = subst IsSealed (sym (get_or-set_same c.statuses n v X inside_list)) tt in
      let k : KeepsSeals c st = λ b m h. each-set (λ j x. IsSealed (status_of c.statuses j) → IsSealed x) c.statuses n v X (λ _. tt) (λ j q. q) m ((o b).sealed_is m h) in
      put_ordered c a (sealing n s) st o k
      (record {
        shown_claimed = (o a).shown_claimed;
        done_sealed = λ m h. let more = times-append m s.sealed (n ∷ []) in let old = (o a).done_sealed m h in omega arith;
        sealed_is = λ m h. let more = times-append m s.sealed (n ∷ []) in
            dite (ℕ_discrete n m) (λ same. subst (λ (z : ℕ). IsSealed (status_of st z)) same here) (λ other. let miss = one-other m n other in k a m (omega arith));
      })

  look_ordered : (c : State I) (a j : ℕ) → IsOrdered c → IsOrdered (does ops sums c (Look a j))
  look_ordered c a j o = put_ordered c a (looking j (status_of c.statuses j) (seat_at c a)) c.statuses o (same_seals c o)
      (record { shown_claimed = (o a).shown_claimed; done_sealed = (o a).done_sealed; sealed_is = (o a).sealed_is })

  empty_ordered : (st : List (Status I)) (n : ℕ) → IsOrderly st (fresh n)
  empty_ordered st n = record { shown_claimed = λ m. omega arith; done_sealed = λ m e. absurd (omega arith); sealed_is = λ m e. absurd (omega arith) }

  split_ordered : (c : State I) (a n : ℕ) → IsOrdered c → IsOrdered (does ops sums c (Split a n))
  split_ordered c a n o = each-snoc (IsOrderly c.statuses) (set c.seats a (giving n (seat_at c a))) (fresh n) gone (empty_ordered c.statuses n)
      (put_ordered c a (giving n (seat_at c a)) c.statuses o (same_seals c o) (record { shown_claimed = (o a).shown_claimed; done_sealed = (o a).done_sealed; sealed_is = (o a).sealed_is }))

  join_ordered : (c : State I) (a b : ℕ) → IsOrdered c → IsOrdered (does ops sums c (Join a b))
  join_ordered c a b o =
      let s : Seat I = seat_at c a in
      let t : Seat I = seat_at c b in
      let w : Seat I = joining s t in
      each-set (λ _. IsOrderly c.statuses) (set c.seats a w) b gone gone (empty_ordered c.statuses 0)
      (put_ordered c a w c.statuses o (same_seals c o)
      (record {
        shown_claimed = λ n. let x = (o a).shown_claimed n in let y = (o b).shown_claimed n in let u = times-append n s.shown t.shown in let v = times-append n s.claimed t.claimed in omega arith;
        done_sealed = λ n h. let u = times-append n s.done t.done in let v = times-append n s.sealed t.sealed in
            dite (ℕ_discrete (times n s.done) 0) (λ z. let y = (o b).done_sealed n (omega arith) in omega arith) (λ z. let y = (o a).done_sealed n (omega arith) in omega arith);
        sealed_is = λ n h. let v = times-append n s.sealed t.sealed in
            dite (ℕ_discrete (times n s.sealed) 0) (λ z. (o b).sealed_is n (omega arith)) (λ z. (o a).sealed_is n (omega arith));
      }))

  or_second : (a b : Bool) → (not a || b) ≡ true → a ≡ true → b ≡ true
  or_second true b h e = h
  or_second false b h e = absurd (cc)

  lawful_ordered : (c : State I) (e : Event) → Sound c → IsOrdered c → is_lawful ops sums c e ≡ true → is_orderly ops sums c e ≡ true → IsOrdered (does ops sums c e)
  lawful_ordered c (Claim a) r o h k = claim_ordered c a o
  lawful_ordered c (Done a n) r o h k = done_ordered c a n o (ltb-true 0 (times n (seat_at c a).sealed) k)
  lawful_ordered c (Show a n) r o h k = let s : Seat I = seat_at c a in let b = and_both (ltb 0 (times n s.claimed)) (not (ltb 0 (times n s.shown))) k in show_ordered c a n r o (ltb-true 0 (times n s.claimed) b.0) (none_of n s.shown b.1)
  lawful_ordered c (Look a j) r o h k = look_ordered c a j o
  lawful_ordered c (Seal a n) r o h k = let s : Seat I = seat_at c a in let b = and_both (ltb 0 s.weight) (ltb 0 (times n s.shown)) h in seal_ordered c a n r o (ltb-true 0 (times n s.shown) b.1)
  lawful_ordered c (Split a n) r o h k = split_ordered c a n o
  lawful_ordered c (Join a b) r o h k = join_ordered c a b o

  pub play_ordered : (c : State I) (e : Event) → Sound c → IsOrdered c → (not (is_lawful ops sums c e) || is_orderly ops sums c e) ≡ true → IsOrdered (play ops sums c e)
  play_ordered c e r o k = by_bool (is_lawful ops sums c e) (λ b. IsOrdered (cond b (does ops sums c e) c))
      (λ h. lawful_ordered c e r o h (or_second (is_lawful ops sums c e) (is_orderly ops sums c e) k h)) (λ h. o)

  pub play_all_ordered : (es : List Event) (c : State I) → Sound c → IsOrdered c → all_orderly ops sums c es ≡ true → IsOrdered (play_all ops sums c es)
  play_all_ordered [] c r o k = o
  play_all_ordered (e ∷ es) c r o k =
      let b = and_both (not (is_lawful ops sums c e) || is_orderly ops sums c e) (all_orderly ops sums (play ops sums c e) es) k in
      play_all_ordered es (play ops sums c e) (play_keeps c e r) (play_ordered c e r o b.0) b.1

  pub start_ordered : IsOrdered (start ops sums seats)
  start_ordered = at_start (IsOrderly (start ops sums seats).statuses) (empty_ordered (start ops sums seats).statuses seats) (empty_ordered (start ops sums seats).statuses 0)

  pub all_ordered : (es : List Event) → 0 < seats → all_orderly ops sums (start ops sums seats) es ≡ true → IsOrdered (play_all ops sums (start ops sums seats) es)
  all_ordered es some k = play_all_ordered es (start ops sums seats) (start_sound some) start_ordered k

  -- ---- what a seat that stands for all knows

  whole : (c : State I) (a : ℕ) → Sound c → IsLast seats (seat_at c a) → (f : Seat I → ℕ) → f gone ≡ 0 → ((i : ℕ) → (seat_at c i).weight ≡ 0 → f (seat_at c i) ≡ 0) → total f c.seats ≡ f (seat_at c a)
  whole c a r last f e none = total-whole f (λ (s : Seat I). s.weight) c.seats a gone refl e (r.weights ∙ sym last.0) none

  pub claims_all : (c : State I) → 0 < seats → Sound c → ClaimsAll (length sums) seats c
  claims_all c some r a last n =
      let one_seat = whole c a r last (λ (s : Seat I). times n s.claimed) refl (λ i e. ap (times n) ((r.hands i).gone e).0) in
      let full : length sums ≤ c.counter = (r.hands a).spent last.1 (omega (arith, last.0)) in
      let o = r.claimed_once n in
      ((λ below. let e = o.0 (omega arith) in omega arith), λ above. let e = o.1 (omega arith) in omega arith)

  pub finishes_all : (c : State I) → 0 < seats → Sound c → IsOrdered c → FinishesAll (length sums) seats c
  finishes_all c some r o a last same =
      let all = claims_all c some r a last in
      let one_seat = whole c a r last (λ (s : Seat I). length s.done) refl (λ i e. ap length ((r.hands i).gone e).1) in
      let long : length (seat_at c a).done ≡ length sums = once_length (length sums) (seat_at c a).done (λ n. ((λ below. same n ∙ (all n).0 below), λ above. same n ∙ (all n).1 above)) in (
        r.finished ∙ (one_seat ∙ long),
        λ n below. let e = (all n).0 below in let d = same n in let s = (o a).done_sealed n (omega arith) in (s, (o a).sealed_is n s),
      )

  pub all_claimed : (es : List Event) → 0 < seats → ClaimsAll (length sums) seats (play_all ops sums (start ops sums seats) es)
  all_claimed es some = claims_all (play_all ops sums (start ops sums seats) es) some (all_sound es some)

  pub all_finished : (es : List Event) → 0 < seats → all_orderly ops sums (start ops sums seats) es ≡ true → FinishesAll (length sums) seats (play_all ops sums (start ops sums seats) es)
  all_finished es some k = finishes_all (play_all ops sums (start ops sums seats) es) some (all_sound es some) (all_ordered es some k)
