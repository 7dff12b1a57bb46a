-- What each step leaves of its seat.
use Rattle.std.specs.Prelude.{ℕ, zero, suc, ◌+◌, ◌-◌, [], ◌∷◌, ◌++◌, nat_lt, if◌then◌else◌}
use Rattle.board_core.specs.declared.steps.Status.{Status}
use Rattle.board_core.specs.State.{Seat}

-- the shares of two seats together, where neither is spent
abbrev pub shares : ℕ → ℕ → ℕ
shares zero n = 0
shares (suc m) zero = 0
shares (suc m) (suc n) = suc m + suc n

module _ {I : Type 0} where
  -- the number n is drawn, where there are this many chunks
  abbrev pub claiming : ℕ → ℕ → Seat I → Seat I
  claiming chunks n seat = if nat_lt n chunks then record seat { claimed = seat.claimed ++ n ∷ [] } else record seat { share = 0 }

  abbrev pub finishing : ℕ → Seat I → Seat I
  finishing c seat = record seat { done = seat.done ++ c ∷ [] }

  abbrev pub showing : ℕ → Seat I → Seat I
  showing c seat = record seat { shown = seat.shown ++ c ∷ [] }

  abbrev pub sealing : ℕ → Seat I → Seat I
  sealing c seat = record seat { sealed = seat.sealed ++ c ∷ [] }

  abbrev pub looking : ℕ → Status I → Seat I → Seat I
  looking j status seat = record seat { looked = seat.looked ++ (j, status) ∷ [] }

  abbrev pub giving : ℕ → Seat I → Seat I
  giving n seat = record seat { share = seat.share - n; weight = seat.weight - n }

  abbrev pub joining : Seat I → Seat I → Seat I
  joining seat other = record {
    share = shares seat.share other.share;
    weight = seat.weight + other.weight;
    claimed = seat.claimed ++ other.claimed;
    done = seat.done ++ other.done;
    shown = seat.shown ++ other.shown;
    sealed = seat.sealed ++ other.sealed;
    looked = seat.looked ++ other.looked;
  }
