-- What a part of a list owns: places side by side that each hold their value.
use Rattle.core.specs.Prelude.{ℕ, true, List, length}
use lib.ListN.{replicate}
use base.Fml.{Fml}
use denote.RattleType.{RattleType}
use denote.RawPtr.{Ptr}
use Rattle.core.specs.Mem.Slots.Ownership.{owned}

-- the values xs of R lie in n places from p on
abbrev pub full_row : (R : RattleType) → Ptr → ℕ → List R.Denot → Fml
full_row R p n xs = owned R p n xs (replicate (length xs) true)
