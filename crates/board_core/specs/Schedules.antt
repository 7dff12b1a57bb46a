-- Which steps are lawful, what they do and answer, and schedules: lists of steps, of which those that aren't lawful are passed over.
use Rattle.std.specs.Prelude.{ℕ, ◌+◌, List, [], ◌∷◌, ◌++◌, map, length, Bool, true, not, ◌&&◌, ◌||◌, ◌==◌, nat_lt, nat_le, if◌then◌else◌, slice_index_or, slice_set, Some, None}
use Rattle.word_monoid.specs.Monoid.{Ops}
use Rattle.word_monoid.specs.Folds.{prefix_of}
use Rattle.board_core.specs.declared.steps.Event.{Event}
use Rattle.board_core.specs.declared.steps.Event.TheVariants.{Claim, Done, Show, Look, Seal, Split, Join}
use Rattle.board_core.specs.declared.steps.Status.TheVariants.{X, A, P}
use Rattle.board_core.specs.declared.steps.Reply.{Reply}
use Rattle.board_core.specs.declared.steps.Reply.TheVariants.{Drew, Looked, Did, NewSeat, Passed}
use Rattle.board_core.specs.State.{State, has, fresh, gone, seat_at, status_at, is_there, is_spent, with_seat, with_status}
use Rattle.board_core.specs.Steps.{claiming, finishing, showing, sealing, looking, giving, joining}

module _ {I : Type 0} (ops : Ops I) (sums : List I) where
  -- at the start one seat stands for all, and nothing is drawn or published
  abbrev pub start : ℕ → State I
  start seats = record { counter = 0; finished = 0; statuses = map (λ _. X) sums; seats = fresh seats ∷ [] }

  -- the sum of the chunk c, and the join of the sums up to it and with it
  abbrev pub sum_at : ℕ → I
  sum_at c = slice_index_or sums c ops.unit

  abbrev pub through : ℕ → I
  through c = prefix_of ops sums (c + 1)

  abbrev pub is_lawful : State I → Event → Bool
  is_lawful s (Claim a) = is_there (seat_at s a) && not (is_spent (seat_at s a))
  is_lawful s (Done a c) = is_there (seat_at s a) && has c (seat_at s a).claimed && not (has c (seat_at s a).done)
  is_lawful s (Show a c) = is_there (seat_at s a) && nat_lt c (length sums)
  is_lawful s (Look a j) = is_there (seat_at s a) && nat_lt j (length sums)
  is_lawful s (Seal a c) = is_there (seat_at s a) && has c (seat_at s a).shown
  is_lawful s (Split a n) = is_there (seat_at s a) && nat_le 1 n && nat_lt n (seat_at s a).share
  is_lawful s (Join a b) = is_there (seat_at s a) && is_there (seat_at s b) && not (a == b)

  -- what a lawful step does
  abbrev pub does : State I → Event → State I
  does s (Claim a) = record (with_seat s a (claiming (length sums) s.counter (seat_at s a))) { counter = s.counter + 1 }
  does s (Done a c) = record (with_seat s a (finishing c (seat_at s a))) { finished = s.finished + 1 }
  does s (Show a c) = with_status (with_seat s a (showing c (seat_at s a))) c (A (sum_at c))
  does s (Look a j) = with_seat s a (looking j (status_at s j) (seat_at s a))
  does s (Seal a c) = with_status (with_seat s a (sealing c (seat_at s a))) c (P (through c))
  does s (Split a n) = record s { seats = slice_set s.seats a (giving n (seat_at s a)) ++ fresh n ∷ [] }
  does s (Join a b) = with_seat (with_seat s a (joining (seat_at s a) (seat_at s b))) b gone

  -- what a lawful step answers
  abbrev pub answers : State I → Event → Reply I
  answers s (Claim a) = Drew (if nat_lt s.counter (length sums) then Some s.counter else None)
  answers s (Done a c) = Did
  answers s (Show a c) = Did
  answers s (Look a j) = Looked (status_at s j)
  answers s (Seal a c) = Did
  answers s (Split a n) = NewSeat (length s.seats)
  answers s (Join a b) = Did

  abbrev pub reply : State I → Event → Reply I
  reply s e = if is_lawful s e then answers s e else Passed

  abbrev pub play : State I → Event → State I
  play s e = if is_lawful s e then does s e else s

  -- a schedule
  abbrev pub play_all : State I → List Event → State I
  play_all s [] = s
  play_all s (e ∷ es) = play_all (play s e) es

  -- the state after a schedule from the start
  abbrev pub after : ℕ → List Event → State I
  after seats events = play_all (start seats) events

  -- what the steps of a schedule answer
  abbrev pub replies : State I → List Event → List (Reply I)
  replies s [] = []
  replies s (e ∷ es) = reply s e ∷ replies (play s e) es

  -- a seat shows only what it claimed, once, and says done only of what it sealed
  abbrev pub is_orderly : State I → Event → Bool
  is_orderly s (Claim a) = true
  is_orderly s (Done a c) = has c (seat_at s a).sealed
  is_orderly s (Show a c) = has c (seat_at s a).claimed && not (has c (seat_at s a).shown)
  is_orderly s (Look a j) = true
  is_orderly s (Seal a c) = true
  is_orderly s (Split a n) = true
  is_orderly s (Join a b) = true

  -- each lawful step of the schedule is orderly
  abbrev pub all_orderly : State I → List Event → Bool
  all_orderly s [] = true
  all_orderly s (e ∷ es) = (not (is_lawful s e) || is_orderly s e) && all_orderly (play s e) es

  -- the same from the start
  abbrev pub is_orderly_from_start : ℕ → List Event → Bool
  is_orderly_from_start seats events = all_orderly (start seats) events
