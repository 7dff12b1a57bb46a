-- Whole runs of a board: the steps of all its seats, in the order in which they fall.
use Rattle.std.specs.Prelude.{◌≡◌, ℕ, ◌<◌, List, [], ◌∷◌, length, replicate, Option, true}
use Rattle.atomic_table.specs.Table.{opening}
use Rattle.word_monoid.specs.Monoid.{Ops}
use Rattle.chunk_seats.specs.Claims.{fresh}
use Rattle.scan_lookback.specs.declared.look.Look.{Look}
use Rattle.scan_lookback.specs.Views.{blank}
use Rattle.board_core.specs.declared.steps.Event.{Event}
use Rattle.board_core.specs.State.{State}
use Rattle.board_core.specs.Sound.{IsSound, ClaimsAll}
use Rattle.board_core.specs.Schedules.{start, is_lawful, play, after}
use Rattle.board_steps.specs.Parts.{ClaimTable, DealTable, StatusTable, at_least_one, claim_part, IsDealPart, IsStatusPart}
use Rattle.board_steps.specs.Running.{RunsClaim, RunsDone, RunsClaimSplit, RunsClaimJoin, RunsDeal, RunsDealSplit, RunsDealJoin, RunsShow, RunsSeal, RunsLook, RunsStatusSplit, RunsStatusJoin}

-- what a claim board of this many chunks may have become, whose first seat stands for this many
pub data ClaimRun (chunks seats : ℕ) : ClaimTable → Type 0 where
  claim_opened : ClaimRun chunks seats (opening (0 ∷ 0 ∷ []) [] (fresh seats))
  claim_drawn : (s t : ClaimTable) (a : ℕ) (answer : Option ℕ) → ClaimRun chunks seats s → RunsClaim chunks a s answer t → ClaimRun chunks seats t
  claim_done : (s t : ClaimTable) (a c : ℕ) → ClaimRun chunks seats s → RunsDone a c s t → ClaimRun chunks seats t
  claim_split : (s t : ClaimTable) (a n number : ℕ) → ClaimRun chunks seats s → RunsClaimSplit a n s number t → ClaimRun chunks seats t
  claim_joined : (s t : ClaimTable) (a b : ℕ) → ClaimRun chunks seats s → RunsClaimJoin a b s t → ClaimRun chunks seats t

-- what a board that deals these items may have become, whose first seat stands for this many
pub data DealRun {T : Type 0} (items : List T) (seats : ℕ) : DealTable T → Type 0 where
  deal_opened : DealRun items seats (opening (0 ∷ []) items (fresh seats))
  deal_drawn : (s t : DealTable T) (a : ℕ) (hand answer : Option ℕ) → DealRun items seats s → RunsDeal (length items) a hand s answer t → DealRun items seats t
  deal_split : (s t : DealTable T) (a n number : ℕ) → DealRun items seats s → RunsDealSplit a n s number t → DealRun items seats t
  deal_joined : (s t : DealTable T) (a b : ℕ) → DealRun items seats s → RunsDealJoin a b s t → DealRun items seats t

-- what a status board for these sums may have become
pub data StatusRun {I : Type 0} (ops : Ops I) (sums : List I) (seats : ℕ) : StatusTable → Type 0 where
  status_opened : StatusRun ops sums seats (opening (at_least_one (replicate (length sums) 0)) [] (blank seats))
  status_shown : (s t : StatusTable) (a c : ℕ) → StatusRun ops sums seats s → RunsShow ops sums a c s t → StatusRun ops sums seats t
  status_sealed : (s t : StatusTable) (a c : ℕ) → StatusRun ops sums seats s → RunsSeal ops sums a c s t → StatusRun ops sums seats t
  status_looked : (s t : StatusTable) (a j : ℕ) (answer : Look I) → StatusRun ops sums seats s → RunsLook ops sums a j s answer t → StatusRun ops sums seats t
  status_split : (s t : StatusTable) (a n number : ℕ) → StatusRun ops sums seats s → RunsStatusSplit a n s number t → StatusRun ops sums seats t
  status_joined : (s t : StatusTable) (a b : ℕ) → StatusRun ops sums seats s → RunsStatusJoin a b s t → StatusRun ops sums seats t

module _ {I : Type 0} (ops : Ops I) (sums : List I) where
  -- each event is lawful where it comes
  abbrev pub AreLawful : State I → List Event → Type 0
  AreLawful s [] = Unit {0}
  AreLawful s (e ∷ es) = (is_lawful ops sums s e ≡ true) × AreLawful (play ops sums s e) es

  -- the claim board is the claim part of the state after some lawful events from the start
  pub record IsClaimSchedule (seats : ℕ) (s : ClaimTable) : Type 0 where
    pub events : List Event
    pub lawful : AreLawful (start ops sums seats) events
    pub is : s ≡ claim_part (after ops sums seats events)

  -- the same for a board that deals items
  pub record IsDealSchedule {T : Type 0} (seats : ℕ) (s : DealTable T) : Type 0 where
    pub events : List Event
    pub lawful : AreLawful (start ops sums seats) events
    pub is : IsDealPart (after ops sums seats events) s

  -- the same for the status board
  pub record IsStatusSchedule (seats : ℕ) (s : StatusTable) : Type 0 where
    pub events : List Event
    pub lawful : AreLawful (start ops sums seats) events
    pub is : IsStatusPart ops sums (after ops sums seats events) s

module _ {I : Type 0} (ops : Ops I) where
  -- whatever has run, the claim board is the claim part of the state after a schedule of lawful events, which is sound
  abbrev pub ClaimRunsAreSchedules : Type 0
  ClaimRunsAreSchedules = (sums : List I) (seats : ℕ) (s : ClaimTable) → ClaimRun (length sums) seats s → IsClaimSchedule ops sums seats s

  abbrev pub ClaimRunsAreSound : Type 0
  ClaimRunsAreSound =
      (sums : List I) (seats : ℕ) (s : ClaimTable) → 0 < seats → ClaimRun (length sums) seats s
      → (c : State I) × IsSound ops sums seats c × ClaimsAll (length sums) seats c × (s ≡ claim_part c)

  -- the same of a board that deals items, for every list of as many sums
  abbrev pub DealRunsAreSchedules : Type 0 → Type 0
  DealRunsAreSchedules T =
      (sums : List I) (items : List T) (seats : ℕ) (s : DealTable T) → length items ≡ length sums → DealRun items seats s → IsDealSchedule ops sums seats s

  abbrev pub DealRunsAreSound : Type 0 → Type 0
  DealRunsAreSound T =
      (sums : List I) (items : List T) (seats : ℕ) (s : DealTable T) → 0 < seats → length items ≡ length sums → DealRun items seats s
      → (c : State I) × IsSound ops sums seats c × ClaimsAll (length sums) seats c × IsDealPart c s

  -- the same of the status board
  abbrev pub StatusRunsAreSchedules : Type 0
  StatusRunsAreSchedules = (sums : List I) (seats : ℕ) (s : StatusTable) → StatusRun ops sums seats s → IsStatusSchedule ops sums seats s

  abbrev pub StatusRunsAreSound : Type 0
  StatusRunsAreSound =
      (sums : List I) (seats : ℕ) (s : StatusTable) → 0 < seats → StatusRun ops sums seats s
      → (c : State I) × IsSound ops sums seats c × IsStatusPart ops sums c s
