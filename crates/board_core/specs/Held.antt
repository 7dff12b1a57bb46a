-- What contracts see of a core.
use Rattle.std.specs.Prelude.{ℕ, ◌<◌, ◌≤◌, ◌^◌, List, length, All}
use Rattle.word_monoid.specs.Monoid.{Ops, IsItem}
use Rattle.board_core.specs.State.{State}
use Rattle.board_core.specs.Sound.{IsSound}

-- the monoid, the chunks' sums, how many seats the first one stood for, and the state
pub record Board (M I : Type 0) : Type 0 where
  pub monoid : M
  pub sums : List I
  pub seats : ℕ
  pub state : State I

abbrev pub with_state : {M I : Type 0} → Board M I → State I → Board M I
with_state b s = record b { state = s }

-- what each core keeps
pub record IsKept {I : Type 0} (ops : Ops I) (sums : List I) (seats : ℕ) (state : State I) : Type 0 where
  pub few : length sums < 2 ^ 62
  pub some_seat : 1 ≤ seats
  pub few_seats : seats < 2 ^ 32
  pub items : All (IsItem ops) sums
  pub sound : IsSound ops sums seats state
