-- Steps of a claim board are events of the core.
use Rattle.std.proofs.Common.{◌≡◌, ℕ, zero, suc, ◌+◌, ◌<◌, ◌≤◌, List, [], ◌∷◌, ◌++◌, length, map, set, Bool, true, false, not, ◌&&◌, ◌==◌, Option, Some, None, refl, sym, ap, ◌∙◌, subst, arith}
use Rattle.std.specs.Prelude.{nat_lt, nat_le, if◌then◌else◌, MatchOption}
use Rattle.std.proofs.lemmas.List.{length-map, map-set, map-append}
use Rattle.std.proofs.lemmas.Bool.Decides.{nat_tests}
use Rattle.word_monoid.specs.Monoid.{Ops}
use Rattle.chunk_seats.specs.Tallies.{times}
use Rattle.chunk_seats.specs.declared.views.ClaimView.{ClaimView}
use Rattle.chunk_seats.specs.Claims as views
use Rattle.board_core.specs.declared.steps.Event.{Event}
use Rattle.board_core.specs.declared.steps.Event.TheVariants.{Claim, Done, Split, Join}
use Rattle.board_core.specs.declared.steps.Reply.TheVariants.{Drew, Did, NewSeat, Passed}
use Rattle.board_core.specs.State.{Seat, State, has, fresh, gone, seat_at, is_there}
use Rattle.board_core.specs.Steps as core
use Rattle.board_core.specs.Schedules.{is_lawful, does, answers, reply, play}
use Rattle.board_steps.specs.Parts.{ClaimTable, claim_view, claim_part}
use Rattle.board_steps.specs.Running.{RunsClaim, RunsDone, RunsClaimSplit, RunsClaimJoin}
use Rattle.board_steps.specs.Events.{IsClaimEvent}
use Rattle.board_steps.proofs.Lists.{mapped_at}

pub may_claim : (s w : ℕ) → 0 < s → 0 < w → (nat_lt 0 w && not (s == 0 && nat_lt 0 w)) ≡ true
may_claim s w a b =
    let there : nat_lt 0 w ≡ true = grind (arith, nat_tests) in
    let some : (s == 0) ≡ false = grind (arith, nat_tests) in
    (λ i. there i && not (some i && there i))

pub both : (a b : Bool) → a ≡ true → b ≡ true → (a && b) ≡ true
both a b p q = λ i. p i && q i

pub three : (a b c : Bool) → a ≡ true → b ≡ true → c ≡ true → (a && b && c) ≡ true
three a b c p q r = λ i. p i && q i && r i

pub there_is : (w : ℕ) → 0 < w → nat_lt 0 w ≡ true
there_is w h = grind (arith, nat_tests)

pub none_is : (w : ℕ) → w ≡ 0 → nat_lt 0 w ≡ false
none_is w h = grind (arith, nat_tests)

pub apart_is : (a b : ℕ) → ¬ (a ≡ b) → not (a == b) ≡ true
apart_is a b h = grind (arith, nat_tests)

-- the shares of two seats, in both crates' words
shares_same : (m n : ℕ) → views.shares m n ≡ core.shares m n
shares_same zero n = refl
shares_same (suc m) zero = refl
shares_same (suc m) (suc n) = refl

module _ {I : Type 0} (ops : Ops I) (sums : List I) where
  pub played : (c : State I) (e : Event) → is_lawful ops sums c e ≡ true → play ops sums c e ≡ does ops sums c e
  played c e h = ap (λ (b : Bool). if b then does ops sums c e else c) h

  pub replied : (c : State I) (e : Event) → is_lawful ops sums c e ≡ true → reply ops sums c e ≡ answers ops sums c e
  replied c e h = ap (λ (b : Bool). if b then answers ops sums c e else Passed) h

  new_view : (b : Bool) (n : ℕ) (answer : Option ℕ) (seat : Seat I) (old new : ClaimView) → old ≡ claim_view seat → answer ≡ (if b then Some n else None)
      → MatchOption answer (new ≡ views.spending old) (λ c. new ≡ views.claiming old c)
      → new ≡ claim_view (if b then record seat { claimed = seat.claimed ++ n ∷ [] } else record seat { share = 0 })
  new_view true n answer seat old new e is told =
      let M : Option ℕ → Type 0 = λ o. MatchOption o (new ≡ views.spending old) (λ c. new ≡ views.claiming old c) in
      let t : new ≡ views.claiming old n = subst M is told in t ∙ ap (λ (v : ClaimView). views.claiming v n) e
  new_view false n answer seat old new e is told =
      let M : Option ℕ → Type 0 = λ o. MatchOption o (new ≡ views.spending old) (λ c. new ≡ views.claiming old c) in
      let t : new ≡ views.spending old = subst M is told in t ∙ ap views.spending e

  -- the tables after a step
  module _ (c : State I) where
    abbrev at : ℕ → Seat I
    at a = seat_at c a

    pub claims : (a : ℕ) (answer : Option ℕ) (t : ClaimTable) → RunsClaim (length sums) a (claim_part c) answer t → IsClaimEvent ops sums c (Claim a) (Drew answer) t
    claims a answer t r =
        let seat : Seat I = seat_at c a in
        let is : r.old ≡ claim_view seat = mapped_at claim_view c.seats a gone r.old r.seat in
        let share : 0 < seat.share = subst (λ (v : ClaimView). 0 < v.share) is r.unspent in
        let weight : 0 < seat.weight = subst (λ (v : ClaimView). 0 < v.weight) is r.weighs in
        let lawful : is_lawful ops sums c (Claim a) ≡ true = may_claim seat.share seat.weight share weight in
        let new : r.new ≡ claim_view (core.claiming (length sums) c.counter seat) = new_view (nat_lt c.counter (length sums)) c.counter answer seat r.old r.new is r.drawn r.told in
        let table : List ClaimView → ClaimTable = λ vs. record { words = (c.counter + 1) ∷ c.finished ∷ []; homes = []; views = vs } in
        record {
          lawful = lawful;
          answers = replied c (Claim a) lawful ∙ ap Drew (sym r.drawn);
          leads = r.after ∙ (ap (λ (v : ClaimView). table (set (map claim_view c.seats) a v)) new ∙ (ap table (sym (map-set claim_view c.seats a (core.claiming (length sums) c.counter seat))) ∙ sym (ap claim_part (played c (Claim a) lawful))));
        }

    pub finishes : (a n : ℕ) (t : ClaimTable) → RunsDone a n (claim_part c) t → IsClaimEvent ops sums c (Done a n) Did t
    finishes a n t r =
        let seat : Seat I = seat_at c a in
        let is : r.old ≡ claim_view seat = mapped_at claim_view c.seats a gone r.old r.seat in
        let weight : 0 < seat.weight = subst (λ (v : ClaimView). 0 < v.weight) is r.weighs in
        let claimed : 0 < times n seat.claimed = subst (λ (v : ClaimView). 0 < times n v.claimed) is r.claimed in
        let not_done : times n seat.done ≡ 0 = subst (λ (v : ClaimView). times n v.done ≡ 0) is r.not_done in
        let lawful : is_lawful ops sums c (Done a n) ≡ true = three (is_there seat) (has n seat.claimed) (not (has n seat.done)) (there_is seat.weight weight) (there_is (times n seat.claimed) claimed) (ap not (none_is (times n seat.done) not_done)) in
        let table : List ClaimView → ClaimTable = λ vs. record { words = c.counter ∷ (c.finished + 1) ∷ []; homes = []; views = vs } in
        record {
          lawful = lawful;
          answers = replied c (Done a n) lawful;
          leads = r.after ∙ (ap (λ (v : ClaimView). table (set (map claim_view c.seats) a (views.finishing v n))) is ∙ (ap table (sym (map-set claim_view c.seats a (core.finishing n seat))) ∙ sym (ap claim_part (played c (Done a n) lawful))));
        }

    pub splits : (a n number : ℕ) (t : ClaimTable) → RunsClaimSplit a n (claim_part c) number t → IsClaimEvent ops sums c (Split a n) (NewSeat number) t
    splits a n number t r =
        let seat : Seat I = seat_at c a in
        let is : r.old ≡ claim_view seat = mapped_at claim_view c.seats a gone r.old r.seat in
        let weight : 0 < seat.weight = subst (λ (v : ClaimView). 0 < v.weight) is r.weighs in
        let less : n < seat.share = subst (λ (v : ClaimView). n < v.share) is r.less in
        let some : 1 ≤ n = r.some_part in
        let one : nat_le 1 n ≡ true = grind (arith, nat_tests) in
        let few : nat_lt n seat.share ≡ true = grind (arith, nat_tests) in
        let lawful : is_lawful ops sums c (Split a n) ≡ true = three (is_there seat) (nat_le 1 n) (nat_lt n seat.share) (there_is seat.weight weight) one few in
        let table : List ClaimView → ClaimTable = λ vs. record { words = c.counter ∷ c.finished ∷ []; homes = []; views = vs } in
        let all = map-append claim_view (set c.seats a (core.giving n seat)) (fresh n ∷ []) ∙ ap (λ (l : List ClaimView). l ++ views.fresh n ∷ []) (map-set claim_view c.seats a (core.giving n seat)) in
        record {
          lawful = lawful;
          answers = replied c (Split a n) lawful ∙ ap NewSeat (sym (r.next ∙ length-map c.seats claim_view));
          leads = r.after ∙ (ap (λ (v : ClaimView). table (set (map claim_view c.seats) a (views.giving v n) ++ views.fresh n ∷ [])) is ∙ (ap table (sym all) ∙ sym (ap claim_part (played c (Split a n) lawful))));
        }

    joined_view : (s t : Seat I) → views.joining (claim_view s) (claim_view t) ≡ claim_view (core.joining s t)
    joined_view s t = ap (λ (n : ℕ). views.claims (s.claimed ++ t.claimed) (s.done ++ t.done) n (s.weight + t.weight)) (shares_same s.share t.share)

    pub joins : (a b : ℕ) (t : ClaimTable) → RunsClaimJoin a b (claim_part c) t → IsClaimEvent ops sums c (Join a b) Did t
    joins a b t r =
        let one : Seat I = seat_at c a in let two : Seat I = seat_at c b in
        let is : r.old ≡ claim_view one = mapped_at claim_view c.seats a gone r.old r.seat in
        let is' : r.other ≡ claim_view two = mapped_at claim_view c.seats b gone r.other r.that in
        let weight : 0 < one.weight = subst (λ (v : ClaimView). 0 < v.weight) is r.weighs in
        let weight' : 0 < two.weight = subst (λ (v : ClaimView). 0 < v.weight) is' r.that_weighs in
        let lawful : is_lawful ops sums c (Join a b) ≡ true = three (is_there one) (is_there two) (not (a == b)) (there_is one.weight weight) (there_is two.weight weight') (apart_is a b r.apart) in
        let table : List ClaimView → ClaimTable = λ vs. record { words = c.counter ∷ c.finished ∷ []; homes = []; views = vs } in
        let view : views.joining r.old r.other ≡ claim_view (core.joining one two) = (λ i. views.joining (is i) (is' i)) ∙ joined_view one two in
        let all = map-set claim_view (set c.seats a (core.joining one two)) b gone ∙ ap (λ (l : List ClaimView). set l b (views.fresh 0)) (map-set claim_view c.seats a (core.joining one two)) in
        record {
          lawful = lawful;
          answers = replied c (Join a b) lawful;
          leads = r.after ∙ (ap (λ (v : ClaimView). table (set (set (map claim_view c.seats) a v) b (views.fresh 0))) view ∙ (ap table (sym all) ∙ sym (ap claim_part (played c (Join a b) lawful))));
        }
