-- What contracts see of a status board and of a seat.
use Rattle.std.specs.Prelude.{ℕ}
use Rattle.atomic_table.specs.Seated.{TableId}
use Rattle.scan_lookback.specs.declared.views.LookView.{LookView}

-- which board it is, over which monoid, how many chunks it has, and how many seats its first one stands for
pub record Board (M : Type 0) : Type 0 where
  pub board : TableId
  pub monoid : M
  pub chunks : ℕ
  pub seats : ℕ

-- of which board the seat is, and what it knows
pub record Held : Type 0 where
  pub board : TableId
  pub view : LookView

abbrev pub held : TableId → LookView → Held
held b v = record { board = b; view = v }
