-- How large the numbers of a sound state are.
use Rattle.std.proofs.Common.{◌≡◌, ℕ, ◌+◌, ◌<◌, ◌≤◌, min, List, [], ◌∷◌, ◌++◌, length, refl, ◌∙◌, arith, length-append}
use Rattle.word_monoid.specs.Monoid.{Ops}
use Rattle.chunk_seats.specs.Tallies.{total, times}
use Rattle.chunk_seats.specs.Laws.Totals.{within_length}
use Rattle.board_core.specs.State.{Seat, State, gone, seat_at}
use Rattle.board_core.specs.Sound.{IsSound}
use Rattle.board_core.specs.Laws.Lists.{total-has, total-le, times-append, once_length}
use Rattle.board_core.proofs.Keeps.{shares_below}

-- the chunks that all seats have claimed
claims_of : {I : Type 0} → List (Seat I) → List ℕ
claims_of [] = []
claims_of (s ∷ ss) = s.claimed ++ claims_of ss

times-claims : {I : Type 0} (n : ℕ) (ss : List (Seat I)) → times n (claims_of ss) ≡ total (λ (s : Seat I). times n s.claimed) ss
unfolding claims_of
times-claims n [] = refl
times-claims n (s ∷ ss) = omega (arith, times-append n s.claimed (claims_of ss), times-claims n ss)

length-claims : {I : Type 0} (ss : List (Seat I)) → length (claims_of ss) ≡ total (λ (s : Seat I). length s.claimed) ss
unfolding claims_of
length-claims [] = refl
length-claims (s ∷ ss) = omega (arith, length-append s.claimed (claims_of ss), length-claims ss)

module _ {I : Type 0} (ops : Ops I) (sums : List I) (seats : ℕ) (s : State I) (sound : IsSound ops sums seats s) where
  pub share_small : (a : ℕ) → (seat_at s a).share ≤ seats
  share_small a = omega (arith, total-has (λ (t : Seat I). t.share) s.seats a gone refl, shares_below ops sums seats s sound)

  pub weight_small : (a : ℕ) → (seat_at s a).weight ≤ seats
  weight_small a = omega (arith, total-has (λ (t : Seat I). t.weight) s.seats a gone refl, sound.weights)

  pub counter_small : s.counter ≤ length sums + seats
  counter_small = omega (arith, sound.room)

  pub finished_small : s.finished ≤ length sums
  finished_small =
      let once : (n : ℕ) → (n < min s.counter (length sums) → times n (claims_of s.seats) ≡ 1) × (min s.counter (length sums) ≤ n → times n (claims_of s.seats) ≡ 0) =
      λ n. ((λ below. times-claims n s.seats ∙ (sound.claimed_once n).0 below), λ above. times-claims n s.seats ∙ (sound.claimed_once n).1 above) in
      let fewer = total-le (λ (t : Seat I). length t.done) (λ (t : Seat I). length t.claimed) s.seats gone (λ a. within_length (seat_at s a).done (seat_at s a).claimed (sound.hands a).done_claimed) in
      omega (arith, sound.finished, fewer, length-claims s.seats, once_length (min s.counter (length sums)) (claims_of s.seats) once)
