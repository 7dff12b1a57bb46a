-- Which part of a core's state each running board is: the words of its table, and the views of its seats by their numbers.
use Rattle.std.specs.Prelude.{◌≡◌, ℕ, ◌+◌, ◌*◌, List, [], ◌∷◌, map, length}
use Rattle.atomic_table.specs.Table as table
use Rattle.word_monoid.specs.Monoid.{Ops}
use Rattle.chunk_seats.specs.declared.views.ClaimView.{ClaimView}
use Rattle.chunk_seats.specs.Claims.{claims}
use Rattle.scan_lookback.specs.declared.views.LookView.{LookView}
use Rattle.scan_lookback.specs.Views.{looks}
use Rattle.board_core.specs.declared.steps.Status.{Status}
use Rattle.board_core.specs.declared.steps.Status.TheVariants.{X, A, P}
use Rattle.board_core.specs.State.{Seat, State, seat_at}
use Rattle.board_core.specs.Sound.{IsTrueOf, status_of}

-- the words and views of a running claim board, and of a running status board. Neither has a slot
abbrev pub ClaimTable : Type 0
ClaimTable = table.State (Unit {0}) ClaimView

-- those of a running board that deals items of a type, which has a slot for each item
abbrev pub DealTable : Type 0 → Type 0
DealTable T = table.State T ClaimView

abbrev pub StatusTable : Type 0
StatusTable = table.State (Unit {0}) LookView

module _ {I : Type 0} where
  -- what a seat has of a claim board
  abbrev pub claim_view : Seat I → ClaimView
  claim_view seat = claims seat.claimed seat.done seat.share seat.weight

  -- the claim part of a state: the counter, the count of finished chunks, and of each seat what it claimed, has done and may claim with
  abbrev pub claim_part : State I → ClaimTable
  claim_part c = record { words = c.counter ∷ c.finished ∷ []; homes = []; views = map claim_view c.seats }

  -- A board that deals items is this of a state: the counter, and of each seat what it drew, has put back and may draw with. An item that was
  -- drawn is a chunk that was claimed, and one that was put back is a chunk that is done. The count of finished chunks is in no word of it.
  pub record IsDealPart {T : Type 0} (c : State I) (s : DealTable T) : Type 0 where
    pub words : s.words ≡ c.counter ∷ []
    pub views : s.views ≡ map claim_view c.seats

-- a table for no chunk has one word, which stays 0
abbrev pub at_least_one : List ℕ → List ℕ
at_least_one [] = 0 ∷ []
at_least_one (w ∷ ws) = w ∷ ws

module _ {I : Type 0} (ops : Ops I) where
  -- the word that says a status
  abbrev pub word_of : Status I → ℕ
  word_of X = 0
  word_of (A v) = 4 * ops.code v + 1
  word_of (P v) = 4 * ops.code v + 2

  -- what a seat has of a status board
  abbrev pub look_view : Seat I → LookView
  look_view seat = looks seat.shown seat.sealed (map (λ p. (p.0, word_of p.1)) seat.looked) seat.weight

  -- the status part of a state: a word for each chunk's status, and of each seat what it has shown, sealed and looked at, and its weight
  abbrev pub status_part : State I → StatusTable
  status_part c = record { words = at_least_one (map word_of c.statuses); homes = []; views = map look_view c.seats }

  -- The status board is the status part of this state. Its seats have a share of their own, which is never spent, so in the state no
  -- share differs from its weight.
  pub record IsStatusPart (sums : List I) (c : State I) (s : StatusTable) : Type 0 where
    pub is : s ≡ status_part c
    pub wide : length c.statuses ≡ length sums
    pub says : (j : ℕ) → IsTrueOf ops sums j (status_of c.statuses j)
    pub unspent : (a : ℕ) → (seat_at c a).share ≡ (seat_at c a).weight
