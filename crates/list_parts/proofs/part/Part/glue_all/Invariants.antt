use Rattle.std.proofs.Common.{◌≡◌, ℕ, [], ◌∷◌, ◌++◌, flat_map}
use denote.RawPtr.{Ptr}
use Rattle.list_parts.specs.Parts.{part_items, Chain}
use Rattle.list_parts.proofs.part.Part.glue_all.Given as goal

abbrev pub invariant-loop-part : goal.invariant-loop-part
invariant-loop-part g l = record {
  place : (size : ℕ) (start : Ptr) → Chain size start l.fn.parts.items → Chain size start (l.left.items ++ l.whole ∷ []);
  items : flat_map part_items l.fn.parts.items ≡ flat_map part_items (l.left.items ++ l.whole ∷ []);
}

abbrev pub decreases-loop-part : goal.decreases-loop-part
decreases-loop-part g l = goal.left-loop-part g l
