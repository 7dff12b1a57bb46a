-- A step of a running board is an event of the core.
use Rattle.std.specs.Prelude.{◌≡◌, List, true}
use Rattle.word_monoid.specs.Monoid.{Ops}
use Rattle.scan_lookback.specs.declared.look.Look.{Look}
use Rattle.scan_lookback.specs.declared.look.Look.TheVariants.{Nothing, Sum, Prefix}
use Rattle.board_core.specs.declared.steps.Event.{Event}
use Rattle.board_core.specs.declared.steps.Reply.{Reply}
use Rattle.board_core.specs.declared.steps.Status.{Status}
use Rattle.board_core.specs.declared.steps.Status.TheVariants.{X, A, P}
use Rattle.board_core.specs.State.{State}
use Rattle.board_core.specs.Schedules.{is_lawful, reply, play}
use Rattle.board_steps.specs.Parts.{ClaimTable, DealTable, StatusTable, claim_part, IsDealPart, IsStatusPart}

-- the status that the answer of `look` tells
abbrev pub seen : {I : Type 0} → Look I → Status I
seen Nothing = X
seen (Sum x) = A x
seen (Prefix x) = P x

module _ {I : Type 0} (ops : Ops I) (sums : List I) where
  -- where the claim board is the claim part of c, the event is lawful, answers this, and the board becomes the claim part of what it leads to
  pub record IsClaimEvent (c : State I) (e : Event) (r : Reply I) (t : ClaimTable) : Type 0 where
    pub lawful : is_lawful ops sums c e ≡ true
    pub answers : reply ops sums c e ≡ r
    pub leads : t ≡ claim_part (play ops sums c e)

  -- the same for a board that deals items
  pub record IsDealEvent {T : Type 0} (c : State I) (e : Event) (r : Reply I) (t : DealTable T) : Type 0 where
    pub lawful : is_lawful ops sums c e ≡ true
    pub answers : reply ops sums c e ≡ r
    pub leads : IsDealPart (play ops sums c e) t

  -- the same for the status board
  pub record IsStatusEvent (c : State I) (e : Event) (r : Reply I) (t : StatusTable) : Type 0 where
    pub lawful : is_lawful ops sums c e ≡ true
    pub answers : reply ops sums c e ≡ r
    pub leads : IsStatusPart ops sums (play ops sums c e) t
