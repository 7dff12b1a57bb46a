-- A row of slots may go to another thread where its values may.
use mathlib.Core.Bool.{Bool, true, false}
use mathlib.Core.List.{List, [], ◌∷◌}
use base.Fraction.{full_share}
use base.Shift.{Keyless}
use denote.RattleType.{RattleType}
use denote.RawPtr.{Ptr, block_ptr, null_ptr, in_block, ◌+ₚ◌}
use denote.Param.Send.{IsSend, part_keyless}
use Rattle.core.specs.Mem.Slots.Ownership.{bytes_of, slot, slots}

module _ (R : RattleType) (s : IsSend R) where
  slot_keyless : (f : Bool) (p : Ptr) (x : R.Denot) → Keyless (slot R f p x)
  slot_keyless true (block_ptr b o) x = part_keyless R s full_share x b o
  slot_keyless true null_ptr x = tt
  slot_keyless false (block_ptr b o) x = tt
  slot_keyless false null_ptr x = tt

  slots_keyless : (p : Ptr) (xs : List R.Denot) (fs : List Bool) → Keyless (slots R p xs fs)
  slots_keyless p [] fs = tt
  slots_keyless p (x ∷ xs) [] = tt
  slots_keyless p (x ∷ xs) (f ∷ fs) = (slot_keyless f p x, slots_keyless (p +ₚ bytes_of R) xs fs)

  pub row_keyless : (p : Ptr) (xs : List R.Denot) (fs : List Bool) → Keyless (in_block p (slots R p xs fs))
  row_keyless (block_ptr b o) xs fs = slots_keyless (block_ptr b o) xs fs
  row_keyless null_ptr xs fs = tt
