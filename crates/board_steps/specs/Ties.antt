-- The statements of the laws.
use Rattle.std.specs.Prelude.{◌≡◌, ℕ, ◌+◌, ◌*◌, ◌%◌, ◌<◌, ◌^◌, List, [], ◌∷◌, length, Option, Some, None, nat_lt, if◌then◌else◌, slice_index}
use mathlib.Core.Option.{none}
use Rattle.atomic_table.specs.Table.{step}
use Rattle.word_monoid.specs.Monoid.{Ops}
use Rattle.chunk_seats.specs.declared.views.Deal.{Deal}
use Rattle.chunk_seats.specs.Tallies.{times}
use Rattle.chunk_seats.specs.Dealing.{Dealt}
use Rattle.chunk_seats.specs.ClaimSteps.{Draws, Finishes}
use Rattle.scan_lookback.specs.declared.look.Look.{Look}
use Rattle.scan_lookback.specs.Named.{Names}
use Rattle.scan_lookback.specs.LookSteps.{Shows, Seals, Finds}
use Rattle.scan_lookback.specs.Found.{Found}
use Rattle.board_core.specs.declared.steps.Event.{Event}
use Rattle.board_core.specs.declared.steps.Event.TheVariants.{Claim, Done, Show, Look as Looks, Seal, Split, Join}
use Rattle.board_core.specs.declared.steps.Reply.TheVariants.{Drew, Looked, Did, NewSeat}
use Rattle.board_core.specs.State.{State}
use Rattle.board_core.specs.Schedules.{play, play_all}
use Rattle.deal_board.specs.Rule.{Served, Carries, Deals}
use Rattle.board_steps.specs.Parts.{ClaimTable, DealTable, StatusTable, claim_part, status_part, IsDealPart, IsStatusPart}
use Rattle.board_steps.specs.Running.{RunsClaim, RunsDone, RunsClaimSplit, RunsClaimJoin, RunsDeal, RunsDealSplit, RunsDealJoin, RunsShow, RunsSeal, RunsLook, RunsStatusSplit, RunsStatusJoin}
use Rattle.board_steps.specs.Events.{seen, IsClaimEvent, IsDealEvent, IsStatusEvent}
use Rattle.board_steps.specs.Runs.{AreLawful}
use Rattle.board_steps.specs.TableSteps.{IsStep, IsSlotStep}

-- what `claim` answers where it has drawn n
abbrev pub chunk_drawn : ℕ → ℕ → Option ℕ
chunk_drawn chunks n = if nat_lt n chunks then Some n else None

-- A step of the table of a claim board, where its rule holds, is what the calls are said to do.
abbrev pub DrawsAreClaims : Type 0
DrawsAreClaims =
    (d : Deal) (a : ℕ) (s t : ClaimTable) → Dealt d s
    → (r : IsStep a 0 ((slice_index s.words 0 + 1) % 2 ^ 64) (slice_index s.words 0) (Draws d.chunks d.seats (step 0 0 1 0 none)) s t)
    → 0 < r.old.share → RunsClaim d.chunks a s (chunk_drawn d.chunks (slice_index s.words 0)) t

abbrev pub FinishesAreDone : Type 0
FinishesAreDone =
    (d : Deal) (a c : ℕ) (s t : ClaimTable) → Dealt d s
    → (r : IsStep a 1 ((slice_index s.words 1 + 1) % 2 ^ 64) (slice_index s.words 1) (Finishes c d.chunks d.seats (step 0 1 1 0 none)) s t)
    → 0 < times c r.old.claimed → times c r.old.done ≡ 0 → RunsDone a c s t

-- the number of what is in a seat's hand
abbrev pub hand_of : {T : Type 0} → List (ℕ × T) → Option ℕ
hand_of [] = None
hand_of (x ∷ xs) = Some x.0

-- The same of a board that deals items, which have to be good for their numbers when they come back.
abbrev pub DrawsAreDeals : {T : Type 0} → (ℕ → T → Type 0) → Type 0
DrawsAreDeals {T} good =
    (items : List T) (d : Deal) (a : ℕ) (s t : DealTable T) → Served items good d s
    → (r : IsSlotStep a 0 ((slice_index s.words 0 + 1) % 2 ^ 64) (slice_index s.words 0) (Deals items d.chunks (step (length items) 0 1 0 none)) s t)
    → Carries r.old r.held → 0 < r.old.share → RunsDeal d.chunks a (hand_of r.held) s (chunk_drawn d.chunks (slice_index s.words 0)) t

-- what a seat does first that draws with this in its hand
abbrev pub putting_back : ℕ → Option ℕ → List Event
putting_back a None = []
putting_back a (Some n) = Done a n ∷ []

module _ {I : Type 0} (ops : Ops I) where
  -- The same of a status board for sums of these codes.
  abbrev pub StoresAreShown : Type 0
  StoresAreShown =
      (sums : List I) (sum_codes prefix_codes : List ℕ) → Names ops sums sum_codes prefix_codes
      → (a c code : ℕ) (s t : StatusTable) → c < length sums → code ≡ slice_index sum_codes c
      → (r : IsStep a c (4 * code + 1) (4 * code + 1) (Shows (step 0 c (4 * code + 1) 0 none)) s t) → 0 < r.old.share → RunsShow ops sums a c s t

  abbrev pub StoresAreSealed : Type 0
  StoresAreSealed =
      (sums : List I) (sum_codes prefix_codes : List ℕ) → Names ops sums sum_codes prefix_codes
      → (a c code : ℕ) (s t : StatusTable) → c < length sums → code ≡ slice_index prefix_codes c
      → (r : IsStep a c (4 * code + 2) (4 * code + 2) (Seals (step 0 c (4 * code + 2) 0 none)) s t)
      → 0 < r.old.share → 0 < times c r.old.shown → RunsSeal ops sums a c s t

  abbrev pub LoadsAreLooks : Type 0
  LoadsAreLooks =
      (sums : List I) (sum_codes prefix_codes : List ℕ) (a j : ℕ) (answer : Look I) (s t : StatusTable) → j < length sums
      → (r : IsStep a j (slice_index s.words j) (slice_index s.words j) (Finds sum_codes prefix_codes (step 0 j 0 0 none)) s t)
      → 0 < r.old.share → Found ops sums j (slice_index s.words j) answer → RunsLook ops sums a j s answer t

  -- What the calls of a claim board do are the core's events of these names.
  abbrev pub ClaimsAreEvents : Type 0
  ClaimsAreEvents =
      (sums : List I) (c : State I) (a : ℕ) (answer : Option ℕ) (t : ClaimTable) → RunsClaim (length sums) a (claim_part c) answer t
      → IsClaimEvent ops sums c (Claim a) (Drew answer) t

  abbrev pub DoneAreEvents : Type 0
  DoneAreEvents =
      (sums : List I) (c : State I) (a n : ℕ) (t : ClaimTable) → RunsDone a n (claim_part c) t → IsClaimEvent ops sums c (Done a n) Did t

  abbrev pub ClaimSplitsAreEvents : Type 0
  ClaimSplitsAreEvents =
      (sums : List I) (c : State I) (a n number : ℕ) (t : ClaimTable) → RunsClaimSplit a n (claim_part c) number t
      → IsClaimEvent ops sums c (Split a n) (NewSeat number) t

  abbrev pub ClaimJoinsAreEvents : Type 0
  ClaimJoinsAreEvents =
      (sums : List I) (c : State I) (a b : ℕ) (t : ClaimTable) → RunsClaimJoin a b (claim_part c) t → IsClaimEvent ops sums c (Join a b) Did t

  -- What `deal` does is the core's event that what was in the hand is done, if it held anything, and then a claim.
  abbrev pub DealsAreEvents : Type 0 → Type 0
  DealsAreEvents T =
      (sums : List I) (c : State I) (a : ℕ) (hand answer : Option ℕ) (s t : DealTable T) → IsDealPart c s → RunsDeal (length sums) a hand s answer t
      → AreLawful ops sums c (putting_back a hand) × IsDealEvent ops sums (play_all ops sums c (putting_back a hand)) (Claim a) (Drew answer) t

  abbrev pub DealSplitsAreEvents : Type 0 → Type 0
  DealSplitsAreEvents T =
      (sums : List I) (c : State I) (a n number : ℕ) (s t : DealTable T) → IsDealPart c s → RunsDealSplit a n s number t
      → IsDealEvent ops sums c (Split a n) (NewSeat number) t

  abbrev pub DealJoinsAreEvents : Type 0 → Type 0
  DealJoinsAreEvents T =
      (sums : List I) (c : State I) (a b : ℕ) (s t : DealTable T) → IsDealPart c s → RunsDealJoin a b s t → IsDealEvent ops sums c (Join a b) Did t

  -- What the calls of a status board do are the core's events of these names.
  abbrev pub ShowsAreEvents : Type 0
  ShowsAreEvents =
      (sums : List I) (c : State I) (a n : ℕ) (s t : StatusTable) → IsStatusPart ops sums c s → RunsShow ops sums a n s t
      → IsStatusEvent ops sums c (Show a n) Did t

  abbrev pub SealsAreEvents : Type 0
  SealsAreEvents =
      (sums : List I) (c : State I) (a n : ℕ) (s t : StatusTable) → IsStatusPart ops sums c s → RunsSeal ops sums a n s t
      → IsStatusEvent ops sums c (Seal a n) Did t

  abbrev pub LooksAreEvents : Type 0
  LooksAreEvents =
      (sums : List I) (c : State I) (a j : ℕ) (answer : Look I) (s t : StatusTable) → IsStatusPart ops sums c s → RunsLook ops sums a j s answer t
      → IsStatusEvent ops sums c (Looks a j) (Looked (seen answer)) t

  abbrev pub StatusSplitsAreEvents : Type 0
  StatusSplitsAreEvents =
      (sums : List I) (c : State I) (a n number : ℕ) (s t : StatusTable) → IsStatusPart ops sums c s → RunsStatusSplit a n s number t
      → IsStatusEvent ops sums c (Split a n) (NewSeat number) t

  abbrev pub StatusJoinsAreEvents : Type 0
  StatusJoinsAreEvents =
      (sums : List I) (c : State I) (a b : ℕ) (s t : StatusTable) → IsStatusPart ops sums c s → RunsStatusJoin a b s t
      → IsStatusEvent ops sums c (Join a b) Did t

  -- the event leaves the other part as it is
  abbrev pub LeavesStatuses : List I → State I → Event → Type 0
  LeavesStatuses sums c e = status_part ops (play ops sums c e) ≡ status_part ops c

  abbrev pub LeavesClaims : List I → State I → Event → Type 0
  LeavesClaims sums c e = claim_part (play ops sums c e) ≡ claim_part c
