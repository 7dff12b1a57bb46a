-- What contracts see of a table of cells and of a seat.
use Rattle.std.specs.Prelude.{ℕ}
use Rattle.atomic_table.specs.Seated.{TableId}
use Rattle.scatter_rows.specs.declared.views.PutView.{PutView}

-- which table it is, and how many seats its first one stands for
pub record Board : Type 0 where
  pub board : TableId
  pub seats : ℕ

-- of which table the seat is, and what it knows
pub record Held : Type 0 where
  pub board : TableId
  pub view : PutView

abbrev pub held : TableId → PutView → Held
held b v = record { board = b; view = v }
