-- What three lists have of the rows while stretches of them are settled: parents, first rows and places.
use Rattle.std.specs.Prelude.{◌≡◌, ℕ, ◌+◌, ◌<◌, ◌≤◌, List, length, max}
use Rattle.list_cuts.specs.Cuts.{number_at, start_of}
use Rattle.row_kin.specs.Taken.{taker, first_of, taken_by, parent_by, place_by, Looks}

-- the rows before `to` are done among themselves
pub record Done (lows parents firsts places : List ℕ) (to : ℕ) : Type 0 where
  pub up : (k : ℕ) → k < to → number_at parents k ≡ parent_by lows to k
  pub first : (k : ℕ) → k < to → number_at firsts k ≡ first_of lows k
  pub place : (k : ℕ) → k < to → number_at places k ≡ place_by lows to k

-- The rows from `from` on, before `to`, are done among themselves: a subtree has no row before `from`, and the rows before it are not
-- among the children
pub record DoneAlone (lows parents firsts places : List ℕ) (from to : ℕ) : Type 0 where
  pub up : (k : ℕ) → from ≤ k → k < to → number_at parents k ≡ parent_by lows to k
  pub first : (k : ℕ) → from ≤ k → k < to → number_at firsts k ≡ max from (first_of lows k)
  pub place : (k : ℕ) → from ≤ k → k < to → taker lows k < to → number_at places k + taken_by lows (taker lows k) from ≡ taken_by lows (taker lows k) k
  pub root : (k : ℕ) → from ≤ k → k < to → to ≤ taker lows k → number_at places k ≡ 0

-- the stretches from number `first` on, before number `last`, are done, each by itself
pub record Stretched (lows parents firsts places ends : List ℕ) (first last : ℕ) : Type 0 where
  pub order : (c : ℕ) → first ≤ c → c < last → start_of ends c ≤ number_at ends c
  pub within : (c : ℕ) → first ≤ c → c < last → number_at ends c ≤ length lows
  pub alone : (c : ℕ) → first ≤ c → c < last → DoneAlone lows parents firsts places (start_of ends c) (number_at ends c)

-- Of a stretch, the rows before row i that take in earlier ones have done so. Row i is the next such row, or `to` where none is left,
-- and the rows before `top` may still be roots
pub record Settling (lows parents firsts places : List ℕ) (from to i top : ℕ) : Type 0 where
  pub low : from ≤ i
  pub high : i ≤ to
  pub top_low : top ≤ from
  pub looks : i < to → Looks lows i top
  pub inner : (k : ℕ) → top ≤ k → k < from → taker lows k < i
  pub up : (k : ℕ) → k < from → number_at parents k ≡ parent_by lows i k
  pub up_own : (k : ℕ) → from ≤ k → k < to → number_at parents k ≡ parent_by lows to k
  pub first : (k : ℕ) → k < i → number_at firsts k ≡ first_of lows k
  pub first_own : (k : ℕ) → i ≤ k → k < to → number_at firsts k ≡ max from (first_of lows k)
  pub place : (k : ℕ) → k < from → number_at places k ≡ place_by lows i k
  pub place_done : (k : ℕ) → from ≤ k → k < to → taker lows k < i → number_at places k ≡ taken_by lows (taker lows k) k
  pub place_own : (k : ℕ) → from ≤ k → k < to → i ≤ taker lows k → taker lows k < to → number_at places k + taken_by lows (taker lows k) from ≡ taken_by lows (taker lows k) k
  pub root : (k : ℕ) → from ≤ k → k < to → to ≤ taker lows k → number_at places k ≡ 0
