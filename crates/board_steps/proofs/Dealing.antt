-- Steps of a board that deals items are events of the core.
use Rattle.std.proofs.Common.{◌≡◌, ℕ, zero, suc, ◌+◌, ◌<◌, List, [], ◌∷◌, ◌++◌, length, map, get_or, set, Option, Some, None, slice_get, refl, sym, ap, ◌∙◌, subst, arith}
use Rattle.std.specs.Prelude.{nat_lt, if◌then◌else◌, MatchOption}
use Rattle.word_monoid.specs.Monoid.{Ops}
use Rattle.chunk_seats.specs.declared.views.ClaimView.{ClaimView}
use Rattle.chunk_seats.specs.Tallies.{times}
use Rattle.chunk_seats.specs.Claims.{claims, fresh, claiming, spending, finishing, giving, joining}
use Rattle.chunk_seats.specs.Laws.Totals.{times_snoc, one_same}
use Rattle.deal_board.specs.Held.{settled}
use Rattle.board_core.specs.declared.steps.Event.TheVariants.{Claim, Done, Split, Join}
use Rattle.board_core.specs.declared.steps.Reply.TheVariants.{Drew, Did, NewSeat}
use Rattle.board_core.specs.State.{State}
use Rattle.board_core.specs.Schedules.{play}
use Rattle.board_steps.specs.Parts.{ClaimTable, DealTable, claim_view, claim_part}
use Rattle.board_steps.specs.Running.{moved, seated}
use Rattle.board_steps.specs.Events.{IsClaimEvent, IsDealEvent}
use Rattle.board_steps.specs.Ties.{DealsAreEvents, DealSplitsAreEvents, DealJoinsAreEvents}
use Rattle.board_steps.proofs.Claiming as core

get_set : {A : Type 0} (xs : List A) (i : ℕ) (x y : A) → slice_get xs i ≡ Some x → slice_get (set xs i y) i ≡ Some y
get_set [] i x y e = absurd cc
get_set (z ∷ xs) zero x y e = refl
get_set (z ∷ xs) (suc i) x y e = get_set xs i x y e

set_set : {A : Type 0} (xs : List A) (i : ℕ) (x y : A) → set (set xs i x) i y ≡ set xs i y
set_set [] i x y = refl
set_set (z ∷ xs) zero x y = refl
set_set (z ∷ xs) (suc i) x y = ap (λ (l : List _). z ∷ l) (set_set xs i x y)

-- a seat with an empty hand has put back all that it drew
settled_empty : (v : ClaimView) → v.done ≡ v.claimed → v ≡ settled v
settled_empty v e = λ i. claims v.claimed (e i) v.share v.weight

-- what is in its hand goes back
settled_with : (v : ClaimView) (n : ℕ) → v.claimed ≡ v.done ++ n ∷ [] → finishing v n ≡ settled v
settled_with v n e = λ i. claims v.claimed (sym e i) v.share v.weight

held_once : (v : ClaimView) (n : ℕ) → v.claimed ≡ v.done ++ n ∷ [] → 0 < times n v.claimed
held_once v n e = omega (arith, ap (times n) e, times_snoc n v.done n, one_same n)

module _ {I : Type 0} (ops : Ops I) (T : Type 0) where
  module _ (sums : List I) (c : State I) where
    abbrev views : List ClaimView
    views = map claim_view c.seats

    drawn : (a : ℕ) (answer : Option ℕ) (old new : ClaimView) (t : DealTable T) → slice_get views a ≡ Some old → 0 < old.weight → 0 < old.share
        → answer ≡ (if nat_lt c.counter (length sums) then Some c.counter else None) → MatchOption answer (new ≡ spending old) (λ n. new ≡ claiming old n)
        → t.words ≡ (c.counter + 1) ∷ [] → t.views ≡ set views a new → IsDealEvent ops sums c (Claim a) (Drew answer) t
    drawn a answer old new t seat weighs unspent is told words viewed =
        let end : ClaimTable = moved (claim_part c) 0 (c.counter + 1) a new in
        let e : IsClaimEvent ops sums c (Claim a) (Drew answer) end = core.claims ops sums c a answer end (record { old = old; new = new; seat = seat; weighs = weighs; unspent = unspent; drawn = is; told = told; after = refl }) in
        record {
          lawful = e.lawful;
          answers = e.answers;
          leads = record {
            words = words ∙ ap (λ (x : ClaimTable). get_or x.words 0 0 ∷ []) e.leads;
            views = viewed ∙ ap (λ (x : ClaimTable). x.views) e.leads;
          };
        }

  pub deals : DealsAreEvents ops T
  deals sums c a None answer s t part r =
      let n : ℕ = get_or s.words 0 0 in
      let found : n ≡ c.counter = ap (λ (ws : List ℕ). get_or ws 0 0) part.words in
      let seat : slice_get (map claim_view c.seats) a ≡ Some r.old = subst (λ (l : List ClaimView). slice_get l a ≡ Some r.old) part.views r.seat in (
        tt,
        drawn sums c a answer (settled r.old) r.new t (seat ∙ ap Some (settled_empty r.old r.holds)) r.weighs r.unspent
            (r.drawn ∙ ap (λ (k : ℕ). if nat_lt k (length sums) then Some k else None) found) r.told
            (r.words ∙ (λ i. set (part.words i) 0 (found i + 1)))
            (r.views ∙ ap (λ (l : List ClaimView). set l a r.new) part.views),
      )
  deals sums c a (Some m) answer s t part r =
      let n : ℕ = get_or s.words 0 0 in
      let found : n ≡ c.counter = ap (λ (ws : List ℕ). get_or ws 0 0) part.words in
      let seat : slice_get (map claim_view c.seats) a ≡ Some r.old = subst (λ (l : List ClaimView). slice_get l a ≡ Some r.old) part.views r.seat in
      let put : ClaimTable = moved (claim_part c) 1 (c.finished + 1) a (finishing r.old m) in
      let e : IsClaimEvent ops sums c (Done a m) Did put = core.finishes ops sums c a m put (record { old = r.old; seat = seat; weighs = r.weighs; claimed = held_once r.old m r.holds.0; not_done = r.holds.1; after = refl }) in
      let c' : State I = play ops sums c (Done a m) in
      let same : c.counter ≡ c'.counter = ap (λ (x : ClaimTable). get_or x.words 0 0) e.leads in
      let viewed : set (map claim_view c.seats) a (finishing r.old m) ≡ map claim_view c'.seats = ap (λ (x : ClaimTable). x.views) e.leads in
      let seat' : slice_get (map claim_view c'.seats) a ≡ Some (settled r.old) =
      subst (λ (l : List ClaimView). slice_get l a ≡ Some (finishing r.old m)) viewed (get_set (map claim_view c.seats) a r.old (finishing r.old m) seat) ∙ ap Some (settled_with r.old m r.holds.0) in (
        (e.lawful, tt),
        drawn sums c' a answer (settled r.old) r.new t seat' r.weighs r.unspent
            (r.drawn ∙ ap (λ (k : ℕ). if nat_lt k (length sums) then Some k else None) (found ∙ same)) r.told
            (r.words ∙ ((λ i. set (part.words i) 0 (found i + 1)) ∙ ap (λ (k : ℕ). (k + 1) ∷ []) same))
            (r.views ∙ (ap (λ (l : List ClaimView). set l a r.new) part.views ∙ (sym (set_set (map claim_view c.seats) a (finishing r.old m) r.new) ∙ ap (λ (l : List ClaimView). set l a r.new) viewed))),
      )

  pub splits : DealSplitsAreEvents ops T
  splits sums c a n number s t part r =
      let seat : slice_get (map claim_view c.seats) a ≡ Some r.old = subst (λ (l : List ClaimView). slice_get l a ≡ Some r.old) part.views r.seat in
      let cut : List ClaimView → List ClaimView = λ l. set l a (giving r.old n) ++ fresh n ∷ [] in
      let end : ClaimTable = seated (claim_part c) (cut (map claim_view c.seats)) in
      let e : IsClaimEvent ops sums c (Split a n) (NewSeat number) end =
      core.splits ops sums c a n number end (record { old = r.old; seat = seat; weighs = r.weighs; some_part = r.some_part; less = r.less; next = r.next ∙ ap length part.views; after = refl }) in
      record {
        lawful = e.lawful;
        answers = e.answers;
        leads = record {
          words = r.words ∙ (part.words ∙ ap (λ (x : ClaimTable). get_or x.words 0 0 ∷ []) e.leads);
          views = r.views ∙ (ap cut part.views ∙ ap (λ (x : ClaimTable). x.views) e.leads);
        };
      }

  pub joins : DealJoinsAreEvents ops T
  joins sums c a b s t part r =
      let seat : slice_get (map claim_view c.seats) a ≡ Some r.old = subst (λ (l : List ClaimView). slice_get l a ≡ Some r.old) part.views r.seat in
      let that : slice_get (map claim_view c.seats) b ≡ Some r.other = subst (λ (l : List ClaimView). slice_get l b ≡ Some r.other) part.views r.that in
      let glue : List ClaimView → List ClaimView = λ l. set (set l a (joining r.old r.other)) b (fresh 0) in
      let end : ClaimTable = seated (claim_part c) (glue (map claim_view c.seats)) in
      let e : IsClaimEvent ops sums c (Join a b) Did end =
      core.joins ops sums c a b end (record { old = r.old; other = r.other; seat = seat; that = that; apart = r.apart; weighs = r.weighs; that_weighs = r.that_weighs; after = refl }) in
      record {
        lawful = e.lawful;
        answers = e.answers;
        leads = record {
          words = r.words ∙ (part.words ∙ ap (λ (x : ClaimTable). get_or x.words 0 0 ∷ []) e.leads);
          views = r.views ∙ (ap glue part.views ∙ ap (λ (x : ClaimTable). x.views) e.leads);
        };
      }
