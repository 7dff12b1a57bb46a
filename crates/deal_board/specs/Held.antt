-- What contracts see of a board that deals items, and of a seat.
use Rattle.std.specs.Prelude.{ℕ, List, [], ◌∷◌, Option, Some, None}
use Rattle.atomic_table.specs.Seated.{TableId}
use Rattle.chunk_seats.specs.declared.views.ClaimView.{ClaimView}
use Rattle.chunk_seats.specs.Claims.{claims}

-- which board it is, how many items it deals, and how many seats its first one stands for
pub record Board : Type 0 where
  pub board : TableId
  pub count : ℕ
  pub seats : ℕ

-- of which board the seat is, what it knows, and the item in its hand with its number
pub record Held (T : Type 0) : Type 0 where
  pub board : TableId
  pub view : ClaimView
  pub hand : Option (ℕ × T)

abbrev pub held : {T : Type 0} → TableId → ClaimView → Option (ℕ × T) → Held T
held b v h = record { board = b; view = v; hand = h }

-- the seat with another value in its hand
abbrev pub holding : {T : Type 0} → Held T → ℕ → T → Held T
holding s c x = held s.board s.view (Some (c, x))

-- the first of the slots that a seat holds
abbrev pub in_hand : {T : Type 0} → List (ℕ × T) → Option (ℕ × T)
in_hand [] = None
in_hand (x ∷ xs) = Some x

-- each item that was drawn is at home again
abbrev pub settled : ClaimView → ClaimView
settled v = claims v.claimed v.claimed v.share v.weight
