-- The two boards of a scan as one value: the claim board's counter and count of finished chunks, the chunks' statuses, and what each
-- seat holds. A seat of weight 0 is gone.
use Rattle.std.specs.Prelude.{ℕ, List, [], Bool, nat_lt, ◌==◌, ◌&&◌, slice_index_or, slice_set}
use Rattle.chunk_seats.specs.Tallies.{times}
use Rattle.board_core.specs.declared.steps.Status.{Status}
use Rattle.board_core.specs.declared.steps.Status.TheVariants.{X}

-- what a seat may do, and what it has done. `looked` has each chunk whose status was read, with the status
pub record Seat (I : Type 0) : Type 0 where
  pub share : ℕ
  pub weight : ℕ
  pub claimed : List ℕ
  pub done : List ℕ
  pub shown : List ℕ
  pub sealed : List ℕ
  pub looked : List (ℕ × Status I)

pub record State (I : Type 0) : Type 0 where
  pub counter : ℕ
  pub finished : ℕ
  pub statuses : List (Status I)
  pub seats : List (Seat I)

-- n stands in the list
abbrev pub has : ℕ → List ℕ → Bool
has n xs = nat_lt 0 (times n xs)

module _ {I : Type 0} where
  -- a new seat with this share
  abbrev pub fresh : ℕ → Seat I
  fresh n = record { share = n; weight = n; claimed = []; done = []; shown = []; sealed = []; looked = [] }

  abbrev pub gone : Seat I
  gone = fresh 0

  abbrev pub seat_at : State I → ℕ → Seat I
  seat_at s a = slice_index_or s.seats a gone

  abbrev pub status_at : State I → ℕ → Status I
  status_at s j = slice_index_or s.statuses j X

  abbrev pub is_there : Seat I → Bool
  is_there seat = nat_lt 0 seat.weight

  abbrev pub is_spent : Seat I → Bool
  is_spent seat = seat.share == 0 && is_there seat

  abbrev pub with_seat : State I → ℕ → Seat I → State I
  with_seat s a seat = record s { seats = slice_set s.seats a seat }

  abbrev pub with_status : State I → ℕ → Status I → State I
  with_status s j status = record s { statuses = slice_set s.statuses j status }
