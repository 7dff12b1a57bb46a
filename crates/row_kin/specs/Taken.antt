-- Rows in postorder take in the roots before them: what is known of a row when those before another one are done.
use Rattle.std.specs.Prelude.{◌≡◌, ℕ, zero, suc, ◌+◌, ◌<◌, ◌≤◌, List, if◌then◌else◌, nat_eq, nat_lt}
use Rattle.list_cuts.specs.Cuts.{number_at}
use Rattle.row_kin.specs.Nearest.{nexts, begins}

-- how many of the numbers before place i are x
abbrev pub equal_before : List ℕ → ℕ → ℕ → ℕ
equal_before ns zero x = 0
equal_before ns (suc i) x = equal_before ns i x + (if nat_eq (number_at ns i) x then 1 else 0)

-- the row that takes in row k: the next one whose subtree begins no later; how many rows there are where there is none
abbrev pub taker : List ℕ → ℕ → ℕ
taker lows k = number_at (nexts lows lows) k

-- the first row of the subtree of row k
abbrev pub first_of : List ℕ → ℕ → ℕ
first_of lows k = number_at (begins lows lows) k

-- how many of the rows before row k are taken in by row i
abbrev pub taken_by : List ℕ → ℕ → ℕ → ℕ
taken_by lows i k = equal_before (nexts lows lows) k i

-- the parent of row k where the rows before row i have taken in theirs: itself as long as it is a root
abbrev pub parent_by : List ℕ → ℕ → ℕ → ℕ
parent_by lows i k = if nat_lt (taker lows k) i then taker lows k else k

-- its place among those that its parent has taken in
abbrev pub place_by : List ℕ → ℕ → ℕ → ℕ
place_by lows i k = if nat_lt (taker lows k) i then taken_by lows (taker lows k) k else 0

-- the place of row k where row i gives those that it takes in theirs, and the others keep what they have
abbrev pub placed_by : List ℕ → ℕ → ℕ → ℕ → ℕ
placed_by lows i k old = if nat_eq (taker lows k) i then taken_by lows i k else old

-- Row i looks at the rows before `top`: the subtrees of the rows from there on begin no earlier than its own, and the row right
-- before `top`, if there is one, is still a root
pub record Looks (lows : List ℕ) (i top : ℕ) : Type 0 where
  pub above : (k : ℕ) → top ≤ k → k < i → number_at lows i ≤ number_at lows k
  pub waits : (k : ℕ) → k + 1 ≡ top → i ≤ taker lows k
