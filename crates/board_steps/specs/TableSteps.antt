-- A step of a table, as `atomic_table` says it of each operation: a word becomes another one, the seat has a new view, and the play of the
-- step holds.
use Rattle.std.specs.Prelude.{ℕ, ◌≡◌, List, []}
use mathlib.Core.Option.{some}
use lib.ListN.{get_elem?}
use Rattle.atomic_table.specs.Table.{State, Me, Act, keeps, stepped, carried_after}

module _ {V : Type 0} where
  -- in a table without slots the seat a makes the word i this word. `said` is the number found, or at a store the number stored
  pub record IsStep (a i word said : ℕ) (plays : Me (Unit {0}) V → ℕ → Me (Unit {0}) V → Type 0) (s t : State (Unit {0}) V) : Type 0 where
    pub old : V
    pub new : V
    pub seat : get_elem? s.views a ≡ some old
    pub played : plays (old, []) said (new, [])
    pub after : t ≡ stepped s i word a [] new keeps

-- The same of a table with slots: what the seat holds goes back or comes by an act.
pub record IsSlotStep {S V : Type 0} (a i word said : ℕ) (plays : Me S V → ℕ → Me S V → Type 0) (s t : State S V) : Type 0 where
  pub old : V
  pub new : V
  pub held : List (ℕ × S)
  pub act : Act S
  pub seat : get_elem? s.views a ≡ some old
  pub played : plays (old, held) said (new, carried_after held act)
  pub after : t ≡ stepped s i word a held new act
