-- Whole runs of a board are schedules of the core, and an event of one part leaves the other.
use Rattle.std.proofs.Common.{◌≡◌, ℕ, zero, suc, List, [], ◌∷◌, ◌++◌, length, map, set, Bool, true, false, Option, Some, None, refl, sym, ap, ◌∙◌, subst}
use Rattle.std.specs.Prelude.{if◌then◌else◌, nat_lt, replicate}
use Rattle.std.proofs.lemmas.List.{length-map}
use Rattle.word_monoid.specs.Monoid.{Ops}
use Rattle.chunk_seats.specs.declared.views.ClaimView.{ClaimView}
use Rattle.scan_lookback.specs.declared.look.Look.{Look}
use Rattle.board_core.specs.declared.steps.Event.{Event}
use Rattle.board_core.specs.declared.steps.Event.TheVariants.{Claim, Done, Show, Look as Looks, Seal, Split, Join}
use Rattle.board_core.specs.declared.steps.Reply.{Reply}
use Rattle.board_core.specs.declared.steps.Reply.TheVariants.{Drew, Looked, Did, NewSeat}
use Rattle.board_core.specs.declared.steps.Status.TheVariants.{X}
use Rattle.board_core.specs.State.{Seat, State, gone, fresh, seat_at, status_at}
use Rattle.board_core.specs.Steps as core
use Rattle.board_core.specs.Sound.{IsTrueOf, status_of}
use Rattle.board_core.specs.Schedules.{start, is_lawful, does, play, play_all, after}
use Rattle.board_steps.specs.Parts.{ClaimTable, DealTable, StatusTable, at_least_one, word_of, claim_view, claim_part, look_view, status_part, IsDealPart, IsStatusPart}
use Rattle.board_steps.specs.Events.{seen, IsClaimEvent, IsDealEvent, IsStatusEvent}
use Rattle.board_steps.specs.Running.{RunsClaim, RunsDone, RunsClaimSplit, RunsClaimJoin, RunsDeal, RunsDealSplit, RunsDealJoin, RunsShow, RunsSeal, RunsLook, RunsStatusSplit, RunsStatusJoin}
use Rattle.board_steps.specs.Runs.{ClaimRun, claim_opened, claim_drawn, claim_done, claim_split, claim_joined, DealRun, deal_opened, deal_drawn, deal_split, deal_joined, StatusRun, status_opened, status_shown, status_sealed, status_looked, status_split, status_joined}
use Rattle.board_steps.specs.Runs.{AreLawful, IsClaimSchedule, IsDealSchedule, IsStatusSchedule}
use Rattle.board_steps.proofs.Lists.{same_map}
use Rattle.board_steps.proofs.Claiming as claiming
use Rattle.board_steps.proofs.Dealing as dealing
use Rattle.board_steps.proofs.Looking as looking

module _ {I : Type 0} (ops : Ops I) (sums : List I) where
  -- an event that leaves a part, lawful or not
  leaves : {B : Type 0} (f : State I → B) (c : State I) (e : Event) → f (does ops sums c e) ≡ f c → f (play ops sums c e) ≡ f c
  leaves {B} f c e h = cases (is_lawful ops sums c e)
    where
      cases : (b : Bool) → f (if b then does ops sums c e else c) ≡ f c
      cases true = h
      cases false = refl

  claiming_seen : (b : Bool) (n : ℕ) (seat : Seat I) → look_view ops (if b then record seat { claimed = seat.claimed ++ n ∷ [] } else record seat { share = 0 }) ≡ look_view ops seat
  claiming_seen true n seat = refl
  claiming_seen false n seat = refl

  pub claim_leaves : (c : State I) (a : ℕ) → status_part ops (play ops sums c (Claim a)) ≡ status_part ops c
  claim_leaves c a = leaves (status_part ops) c (Claim a)
      (ap (λ (vs : List _). record { words = at_least_one (map (word_of ops) c.statuses); homes = []; views = vs })
      (same_map (look_view ops) c.seats a gone (core.claiming (length sums) c.counter (seat_at c a)) (claiming_seen (nat_lt c.counter (length sums)) c.counter (seat_at c a))))

  pub done_leaves : (c : State I) (a n : ℕ) → status_part ops (play ops sums c (Done a n)) ≡ status_part ops c
  done_leaves c a n = leaves (status_part ops) c (Done a n)
      (ap (λ (vs : List _). record { words = at_least_one (map (word_of ops) c.statuses); homes = []; views = vs })
      (same_map (look_view ops) c.seats a gone (core.finishing n (seat_at c a)) refl))

  same_claims : (c : State I) (a : ℕ) (seat' : Seat I) → claim_view seat' ≡ claim_view (seat_at c a) → map claim_view (set c.seats a seat') ≡ map claim_view c.seats
  same_claims c a seat' e = same_map claim_view c.seats a gone seat' e

  abbrev with_views : State I → List ClaimView → ClaimTable
  with_views c vs = record { words = c.counter ∷ c.finished ∷ []; homes = []; views = vs }

  pub show_leaves : (c : State I) (a n : ℕ) → claim_part (play ops sums c (Show a n)) ≡ claim_part c
  show_leaves c a n = leaves claim_part c (Show a n) (ap (with_views c) (same_claims c a (core.showing n (seat_at c a)) refl))

  pub seal_leaves : (c : State I) (a n : ℕ) → claim_part (play ops sums c (Seal a n)) ≡ claim_part c
  seal_leaves c a n = leaves claim_part c (Seal a n) (ap (with_views c) (same_claims c a (core.sealing n (seat_at c a)) refl))

  pub look_leaves : (c : State I) (a j : ℕ) → claim_part (play ops sums c (Looks a j)) ≡ claim_part c
  look_leaves c a j = leaves claim_part c (Looks a j) (ap (with_views c) (same_claims c a (core.looking j (status_at c j) (seat_at c a)) refl))

  -- one event more
  snoc : (es : List Event) (s : State I) (e : Event) → play_all ops sums s (es ++ e ∷ []) ≡ play ops sums (play_all ops sums s es) e
  snoc [] s e = refl
  snoc (x ∷ es) s e = snoc es (play ops sums s x) e

  lawful_snoc : (es : List Event) (s : State I) (e : Event) → AreLawful ops sums s es → is_lawful ops sums (play_all ops sums s es) e ≡ true → AreLawful ops sums s (es ++ e ∷ [])
  lawful_snoc [] s e h l = (l, tt)
  lawful_snoc (x ∷ es) s e h l = (h.0, lawful_snoc es (play ops sums s x) e h.1 l)

  module _ (seats : ℕ) where
    abbrev state : List Event → State I
    state es = after ops sums seats es

    claim_more : (es : List Event) (e : Event) (r : Reply I) (t : ClaimTable) → AreLawful ops sums (start ops sums seats) es → IsClaimEvent ops sums (state es) e r t → IsClaimSchedule ops sums seats t
    claim_more es e r t h step = record {
      events = es ++ e ∷ [];
      lawful = lawful_snoc es (start ops sums seats) e h step.lawful;
      is = step.leads ∙ ap claim_part (sym (snoc es (start ops sums seats) e));
    }

    claim_drawn_more : (s t : ClaimTable) (a : ℕ) (answer : Option ℕ) → IsClaimSchedule ops sums seats s → RunsClaim (length sums) a s answer t → IsClaimSchedule ops sums seats t
    claim_drawn_more s t a answer so r = claim_more so.events (Claim a) (Drew answer) t so.lawful
        (claiming.claims ops sums (state so.events) a answer t (subst (λ (x : ClaimTable). RunsClaim (length sums) a x answer t) so.is r))

    claim_done_more : (s t : ClaimTable) (a c : ℕ) → IsClaimSchedule ops sums seats s → RunsDone a c s t → IsClaimSchedule ops sums seats t
    claim_done_more s t a c so r = claim_more so.events (Done a c) Did t so.lawful
        (claiming.finishes ops sums (state so.events) a c t (subst (λ (x : ClaimTable). RunsDone a c x t) so.is r))

    claim_split_more : (s t : ClaimTable) (a n number : ℕ) → IsClaimSchedule ops sums seats s → RunsClaimSplit a n s number t → IsClaimSchedule ops sums seats t
    claim_split_more s t a n number so r = claim_more so.events (Split a n) (NewSeat number) t so.lawful
        (claiming.splits ops sums (state so.events) a n number t (subst (λ (x : ClaimTable). RunsClaimSplit a n x number t) so.is r))

    claim_joined_more : (s t : ClaimTable) (a b : ℕ) → IsClaimSchedule ops sums seats s → RunsClaimJoin a b s t → IsClaimSchedule ops sums seats t
    claim_joined_more s t a b so r = claim_more so.events (Join a b) Did t so.lawful
        (claiming.joins ops sums (state so.events) a b t (subst (λ (x : ClaimTable). RunsClaimJoin a b x t) so.is r))

    pub claim_runs : (s : ClaimTable) → ClaimRun (length sums) seats s → IsClaimSchedule ops sums seats s
    claim_runs _ claim_opened = record { events = []; lawful = tt; is = refl }
    claim_runs _ (claim_drawn s t a answer run r) = claim_drawn_more s t a answer (claim_runs s run) r
    claim_runs _ (claim_done s t a c run r) = claim_done_more s t a c (claim_runs s run) r
    claim_runs _ (claim_split s t a n number run r) = claim_split_more s t a n number (claim_runs s run) r
    claim_runs _ (claim_joined s t a b run r) = claim_joined_more s t a b (claim_runs s run) r

    module _ {T : Type 0} where
      deal_more : (es : List Event) (e : Event) (r : Reply I) (t : DealTable T) → AreLawful ops sums (start ops sums seats) es → IsDealEvent ops sums (state es) e r t → IsDealSchedule ops sums seats t
      deal_more es e r t h step = record {
        events = es ++ e ∷ [];
        lawful = lawful_snoc es (start ops sums seats) e h step.lawful;
        is = subst (λ (x : State I). IsDealPart x t) (sym (snoc es (start ops sums seats) e)) step.leads;
      }

      -- what is in the hand is done first
      deal_drawn_more : (s t : DealTable T) (a : ℕ) (hand answer : Option ℕ) → IsDealSchedule ops sums seats s → RunsDeal (length sums) a hand s answer t → IsDealSchedule ops sums seats t
      deal_drawn_more s t a None answer so r = deal_more so.events (Claim a) (Drew answer) t so.lawful (dealing.deals ops T sums (state so.events) a None answer s t so.is r).1
      deal_drawn_more s t a (Some n) answer so r =
          let steps = dealing.deals ops T sums (state so.events) a (Some n) answer s t so.is r in
          deal_more (so.events ++ Done a n ∷ []) (Claim a) (Drew answer) t (lawful_snoc so.events (start ops sums seats) (Done a n) so.lawful steps.0.0)
          (subst (λ (x : State I). IsDealEvent ops sums x (Claim a) (Drew answer) t) (sym (snoc so.events (start ops sums seats) (Done a n))) steps.1)

      deal_split_more : (s t : DealTable T) (a n number : ℕ) → IsDealSchedule ops sums seats s → RunsDealSplit a n s number t → IsDealSchedule ops sums seats t
      deal_split_more s t a n number so r = deal_more so.events (Split a n) (NewSeat number) t so.lawful (dealing.splits ops T sums (state so.events) a n number s t so.is r)

      deal_joined_more : (s t : DealTable T) (a b : ℕ) → IsDealSchedule ops sums seats s → RunsDealJoin a b s t → IsDealSchedule ops sums seats t
      deal_joined_more s t a b so r = deal_more so.events (Join a b) Did t so.lawful (dealing.joins ops T sums (state so.events) a b s t so.is r)

      pub deal_runs : (items : List T) → length items ≡ length sums → (s : DealTable T) → DealRun items seats s → IsDealSchedule ops sums seats s
      deal_runs items many _ deal_opened = record { events = []; lawful = tt; is = record { words = refl; views = refl } }
      deal_runs items many _ (deal_drawn s t a hand answer run r) = deal_drawn_more s t a hand answer (deal_runs items many s run) (subst (λ (k : ℕ). RunsDeal k a hand s answer t) many r)
      deal_runs items many _ (deal_split s t a n number run r) = deal_split_more s t a n number (deal_runs items many s run) r
      deal_runs items many _ (deal_joined s t a b run r) = deal_joined_more s t a b (deal_runs items many s run) r

    status_more : (es : List Event) (e : Event) (r : Reply I) (t : StatusTable) → AreLawful ops sums (start ops sums seats) es → IsStatusEvent ops sums (state es) e r t → IsStatusSchedule ops sums seats t
    status_more es e r t h step = record {
      events = es ++ e ∷ [];
      lawful = lawful_snoc es (start ops sums seats) e h step.lawful;
      is = subst (λ (x : State I). IsStatusPart ops sums x t) (sym (snoc es (start ops sums seats) e)) step.leads;
    }

    status_shown_more : (s t : StatusTable) (a c : ℕ) → IsStatusSchedule ops sums seats s → RunsShow ops sums a c s t → IsStatusSchedule ops sums seats t
    status_shown_more s t a c so r = status_more so.events (Show a c) Did t so.lawful (looking.shows ops sums (state so.events) s so.is a c t r)

    status_sealed_more : (s t : StatusTable) (a c : ℕ) → IsStatusSchedule ops sums seats s → RunsSeal ops sums a c s t → IsStatusSchedule ops sums seats t
    status_sealed_more s t a c so r = status_more so.events (Seal a c) Did t so.lawful (looking.seals ops sums (state so.events) s so.is a c t r)

    status_looked_more : (s t : StatusTable) (a j : ℕ) (answer : Look I) → IsStatusSchedule ops sums seats s → RunsLook ops sums a j s answer t → IsStatusSchedule ops sums seats t
    status_looked_more s t a j answer so r = status_more so.events (Looks a j) (Looked (seen answer)) t so.lawful (looking.looks ops sums (state so.events) s so.is a j answer t r)

    status_split_more : (s t : StatusTable) (a n number : ℕ) → IsStatusSchedule ops sums seats s → RunsStatusSplit a n s number t → IsStatusSchedule ops sums seats t
    status_split_more s t a n number so r = status_more so.events (Split a n) (NewSeat number) t so.lawful (looking.splits ops sums (state so.events) s so.is a n number t r)

    status_joined_more : (s t : StatusTable) (a b : ℕ) → IsStatusSchedule ops sums seats s → RunsStatusJoin a b s t → IsStatusSchedule ops sums seats t
    status_joined_more s t a b so r = status_more so.events (Join a b) Did t so.lawful (looking.joins ops sums (state so.events) s so.is a b t r)

    -- at the start all statuses are nothing, and all words 0
    blank_words : (xs : List I) → map (word_of ops) (map (λ _. X) xs) ≡ replicate (length xs) 0
    blank_words [] = refl
    blank_words (x ∷ xs) = ap (λ (l : List ℕ). 0 ∷ l) (blank_words xs)

    blank_says : (xs : List I) (k j : ℕ) → IsTrueOf ops sums k (status_of (map (λ _. X) xs) j)
    blank_says [] k j = tt
    blank_says (x ∷ xs) k zero = tt
    blank_says (x ∷ xs) k (suc j) = blank_says xs k j

    first_whole : (a : ℕ) → (seat_at (start ops sums seats) a).share ≡ (seat_at (start ops sums seats) a).weight
    first_whole zero = refl
    first_whole (suc a) = refl

    pub status_runs : (s : StatusTable) → StatusRun ops sums seats s → IsStatusSchedule ops sums seats s
    status_runs _ status_opened = record {
      events = [];
      lawful = tt;
      is = record {
        is = ap (λ (ws : List ℕ). record { words = at_least_one ws; homes = []; views = map (look_view ops) (fresh seats ∷ []) }) (sym (blank_words sums));
        wide = length-map sums (λ _. X);
        says = λ j. blank_says sums j j;
        unspent = first_whole;
      };
    }
    status_runs _ (status_shown s t a c run r) = status_shown_more s t a c (status_runs s run) r
    status_runs _ (status_sealed s t a c run r) = status_sealed_more s t a c (status_runs s run) r
    status_runs _ (status_looked s t a j answer run r) = status_looked_more s t a j answer (status_runs s run) r
    status_runs _ (status_split s t a n number run r) = status_split_more s t a n number (status_runs s run) r
    status_runs _ (status_joined s t a b run r) = status_joined_more s t a b (status_runs s run) r
