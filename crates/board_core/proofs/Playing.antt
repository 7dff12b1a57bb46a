-- What a core keeps, as it takes steps.
use Rattle.std.proofs.Common.{◌≡◌, ℕ, ◌+◌, ◌<◌, ◌≤◌, List, [], ◌∷◌, length, take, get_or, zero, suc, All, Bool, false, not, ◌&&◌, ◌||◌, Some, slice_get, Result, Ok, Err, refl, sym, ap, ◌∙◌, subst, true, add-one}
use Rattle.std.proofs.lemmas.Option.{slice_get-get_or}
use Rattle.std.specs.Result.{OnOk, OnErr}
use Rattle.word_monoid.specs.Monoid.{Ops, IsItem}
use Rattle.board_core.specs.declared.steps.Event.{Event}
use Rattle.board_core.specs.State.{State}
use Rattle.board_core.specs.Schedules.{start, is_lawful, does, play, play_all, is_orderly, all_orderly}
use Rattle.board_core.specs.Held.{Board, IsKept, with_state}
use Rattle.board_core.specs.Sound.{IsSound, IsOrdered, ClaimsAll, FinishesAll}
use Rattle.board_core.proofs.Keeps.{lawful_keeps, start_sound, play_all_keeps, play_all_ordered, claims_all, finishes_all}

and_both : (a b : Bool) → (a && b) ≡ true → (a ≡ true) × (b ≡ true)
and_both true b h = (refl, h)
and_both false b h = absurd (cc)

some_injective : {A : Type 0} (x y : A) → Some x ≡ Some y → x ≡ y
some_injective x y e = cc

both_and : (a b : Bool) → a ≡ true → b ≡ true → (a && b) ≡ true
both_and true b e h = h
both_and false b e h = absurd (cc)

-- a step either has its effect, or changes nothing
pub kept_step : {I R E : Type 0} (ops : Ops I) (own sums : List I) (seats : ℕ) (s new : State I) (e : Event) (r : Result R E) → sums ≡ own → IsKept ops own seats s → is_lawful ops sums s e ≡ true
    → OnOk r (new ≡ does ops sums s e) → OnErr r (new ≡ s) → IsKept ops own seats new
kept_step ops own sums seats s new e (Ok x) same kept lawful done failed =
    record {
      few = kept.few;
      some_seat = kept.some_seat;
      few_seats = kept.few_seats;
      items = kept.items;
      sound = subst (λ (t : State _). IsSound ops own seats t) (sym (done ∙ ap (λ l. does ops l s e) same)) (lawful_keeps ops own seats s e kept.sound (ap (λ l. is_lawful ops l s e) (sym same) ∙ lawful));
    }
kept_step ops own sums seats s new e (Err x) same kept lawful done failed = subst (IsKept ops own seats) (sym failed) kept

pub kept_start : {I : Type 0} (ops : Ops I) (own sums : List I) (seats : ℕ) (s : State I) → own ≡ sums → length sums < 4611686018427387904 → All (IsItem ops) sums → 1 ≤ seats → seats < 4294967296 → s ≡ start ops sums seats → IsKept ops own seats s
kept_start ops own sums seats s same few items some few_seats is =
    subst (λ (l : List _). IsKept ops l seats s) (sym same)
    (subst (IsKept ops sums seats) (sym is) (record { few = few; some_seat = some; few_seats = few_seats; items = items; sound = start_sound ops sums seats some }))

module _ {I : Type 0} (ops : Ops I) (sums : List I) where
  -- one step more
  pub play_all_more : (es : List Event) (s : State I) (i : ℕ) (e : Event) → slice_get es i ≡ Some e → play_all ops sums s (take (suc i) es) ≡ play ops sums (play_all ops sums s (take i es)) e
  play_all_more [] s i e at = absurd cc
  play_all_more (x ∷ es) s zero e at = ap (play ops sums s) (some_injective x e at)
  play_all_more (x ∷ es) s (suc i) e at = play_all_more es (play ops sums s x) i e at

  pub orderly_take : (es : List Event) (s : State I) (n : ℕ) → all_orderly ops sums s es ≡ true → all_orderly ops sums s (take n es) ≡ true
  orderly_take es s zero h = refl
  orderly_take [] s (suc n) h = refl
  orderly_take (e ∷ es) s (suc n) h =
      let b = and_both (not (is_lawful ops sums s e) || is_orderly ops sums s e) (all_orderly ops sums (play ops sums s e) es) h in
      both_and (not (is_lawful ops sums s e) || is_orderly ops sums s e) (all_orderly ops sums (play ops sums s e) (take n es)) b.0 (orderly_take es (play ops sums s e) n b.1)

-- a board after some of the steps of a schedule
module _ {M I : Type 0} (ops : M → Ops I) (b b' : Board M I) (es : List Event) (n : ℕ) (kept : IsKept (ops b.monoid) b.sums b.seats b.state) (is : b' ≡ with_state b (play_all (ops b.monoid) b.sums b.state (take n es))) where
  abbrev later : State I
  later = play_all (ops b.monoid) b.sums b.state (take n es)

  later_sound : IsSound (ops b.monoid) b.sums b.seats later
  later_sound = play_all_keeps (ops b.monoid) b.sums b.seats (take n es) b.state kept.sound

  later_ordered : IsOrdered b.state → all_orderly (ops b.monoid) b.sums b.state es ≡ true → IsOrdered later
  later_ordered ordered orderly = play_all_ordered (ops b.monoid) b.sums b.seats (take n es) b.state kept.sound ordered (orderly_take (ops b.monoid) b.sums es b.state n orderly)

  pub still_sound : IsSound (ops b'.monoid) b'.sums b'.seats b'.state
  still_sound = subst (λ (x : Board M I). IsSound (ops x.monoid) x.sums x.seats x.state) (sym is) later_sound

  pub still_claims : ClaimsAll (length b'.sums) b'.seats b'.state
  still_claims = subst (λ (x : Board M I). ClaimsAll (length x.sums) x.seats x.state) (sym is) (claims_all (ops b.monoid) b.sums b.seats later kept.some_seat later_sound)

  pub still_ordered : IsOrdered b.state → all_orderly (ops b.monoid) b.sums b.state es ≡ true → IsOrdered b'.state
  still_ordered ordered orderly = subst (λ (x : Board M I). IsOrdered x.state) (sym is) (later_ordered ordered orderly)

  pub still_finishes : IsOrdered b.state → all_orderly (ops b.monoid) b.sums b.state es ≡ true → FinishesAll (length b'.sums) b'.seats b'.state
  still_finishes ordered orderly = subst (λ (x : Board M I). FinishesAll (length x.sums) x.seats x.state) (sym is) (finishes_all (ops b.monoid) b.sums b.seats later kept.some_seat later_sound (later_ordered ordered orderly))

-- one step of a loop over a schedule
pub one_more : {M I : Type 0} (ops : M → Ops I) (b now new : Board M I) (es : List Event) (i : ℕ) (d : Event) → i < length es → now ≡ with_state b (play_all (ops b.monoid) b.sums b.state (take i es))
    → new ≡ with_state now (play (ops now.monoid) now.sums now.state (get_or es i d)) → new ≡ with_state b (play_all (ops b.monoid) b.sums b.state (take (i + 1) es))
one_more {M} {I} ops b now new es i d near so_far step =
    let e : Event = get_or es i d in
    step ∙ (ap (λ (x : Board M I). with_state x (play (ops x.monoid) x.sums x.state e)) so_far
    ∙ ap (with_state b) (sym (play_all_more (ops b.monoid) b.sums es b.state i e (slice_get-get_or es i d near)) ∙ ap (λ (k : ℕ). play_all (ops b.monoid) b.sums b.state (take k es)) (sym (add-one i))))
