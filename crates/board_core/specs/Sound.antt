-- What holds of the boards after any schedule.
use Rattle.std.specs.Prelude.{◌≡◌, ℕ, ◌+◌, ◌<◌, ◌≤◌, min, ◌⊎◌, List, [], ◌∷◌, length, slice_index_or}
use Rattle.chunk_seats.specs.Tallies.{total, times, OnceBelow}
use Rattle.board_core.specs.declared.steps.Status.{Status}
use Rattle.board_core.specs.declared.steps.Status.TheVariants.{X, A, P}
use Rattle.word_monoid.specs.Monoid.{Ops}
use Rattle.board_core.specs.State.{Seat, State, seat_at}
use Rattle.board_core.specs.Schedules.{sum_at, through}

-- Q holds of each item
abbrev pub Each : {B : Type 0} → (B → Type 0) → List B → Type 0
Each Q [] = Unit {0}
Each Q (x ∷ xs) = Q x × Each Q xs

module _ {I : Type 0} where
  -- something is published
  abbrev pub IsPublished : Status I → Type 0
  IsPublished X = ⊥
  IsPublished (A v) = Unit {0}
  IsPublished (P v) = Unit {0}

  -- the join up to the chunk is published
  abbrev pub IsSealed : Status I → Type 0
  IsSealed X = ⊥
  IsSealed (A v) = ⊥
  IsSealed (P v) = Unit {0}

  abbrev pub status_of : List (Status I) → ℕ → Status I
  status_of statuses j = slice_index_or statuses j X

  -- the claims of a seat, where there are this many chunks and this is the counter
  pub record IsHand (chunks counter : ℕ) (s : Seat I) : Type 0 where
    pub share_is : (s.share ≡ 0) ⊎ (s.share ≡ s.weight)
    pub spent : s.share ≡ 0 → 0 < s.weight → chunks ≤ counter
    pub gone : s.weight ≡ 0 → (s.claimed ≡ []) × (s.done ≡ [])
    pub done_claimed : (n : ℕ) → times n s.done ≤ times n s.claimed

  -- what an orderly seat keeps besides
  pub record IsOrderly (statuses : List (Status I)) (s : Seat I) : Type 0 where
    pub shown_claimed : (n : ℕ) → times n s.shown ≤ times n s.claimed
    pub done_sealed : (n : ℕ) → 0 < times n s.done → 0 < times n s.sealed
    pub sealed_is : (n : ℕ) → 0 < times n s.sealed → IsSealed (status_of statuses n)

  abbrev pub IsOrdered : State I → Type 0
  IsOrdered c = (a : ℕ) → IsOrderly c.statuses (seat_at c a)

module _ {I : Type 0} (ops : Ops I) (sums : List I) where
  -- the value of a status is its chunk's sum, or the join of the sums up to its chunk and with it
  abbrev pub IsTrueOf : ℕ → Status I → Type 0
  IsTrueOf c X = Unit {0}
  IsTrueOf c (A v) = v ≡ sum_at ops sums c
  IsTrueOf c (P v) = v ≡ through ops sums c

  -- what a look found is true, and where it found something its chunk is still published
  abbrev pub IsSeen : List (Status I) → ℕ × Status I → Type 0
  IsSeen statuses p = IsTrueOf p.0 p.1 × (IsPublished p.1 → IsPublished (status_of statuses p.0))

  -- what a seat has published and seen, where the chunks have these statuses
  pub record IsLooker (statuses : List (Status I)) (s : Seat I) : Type 0 where
    pub shown : (n : ℕ) → 0 < times n s.shown → IsPublished (status_of statuses n)
    pub sealed : (n : ℕ) → 0 < times n s.sealed → 0 < times n s.shown
    pub looked : Each (IsSeen statuses) s.looked

  pub record IsSound (seats : ℕ) (c : State I) : Type 0 where
    pub room : c.counter + total (λ s. s.share) c.seats ≤ length sums + seats
    pub weights : total (λ s. s.weight) c.seats ≡ seats
    -- each number below both the counter and the number of chunks stands in one seat's claims, once, and no other does
    pub claimed_once : OnceBelow (min c.counter (length sums)) (λ n. total (λ s. times n s.claimed) c.seats)
    pub finished : c.finished ≡ total (λ s. length s.done) c.seats
    pub hands : (a : ℕ) → IsHand (length sums) c.counter (seat_at c a)
    pub wide : length c.statuses ≡ length sums
    pub statuses : (j : ℕ) → IsTrueOf j (status_of c.statuses j)
    pub lookers : (a : ℕ) → IsLooker c.statuses (seat_at c a)

module _ {I : Type 0} where
  -- a seat that stands for all and is spent
  abbrev pub IsLast : ℕ → Seat I → Type 0
  IsLast seats s = (s.weight ≡ seats) × (s.share ≡ 0)

  -- such a seat has claimed each chunk, once
  abbrev pub ClaimsAll : ℕ → ℕ → State I → Type 0
  ClaimsAll chunks seats c = (a : ℕ) → IsLast seats (seat_at c a) → OnceBelow chunks (λ n. times n (seat_at c a).claimed)

  -- and where it has done all that it claimed, each chunk is sealed and counted
  abbrev pub FinishesAll : ℕ → ℕ → State I → Type 0
  FinishesAll chunks seats c =
      (a : ℕ) → IsLast seats (seat_at c a) → ((n : ℕ) → times n (seat_at c a).done ≡ times n (seat_at c a).claimed)
      → (c.finished ≡ chunks) × ((n : ℕ) → n < chunks → (0 < times n (seat_at c a).sealed) × IsSealed (status_of c.statuses n))
