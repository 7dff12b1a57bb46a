use Rattle.std.proofs.Common.{◌≡◌, ℕ, ◌+◌, ◌*◌, ◌≤◌, [], ◌∷◌, ◌++◌, length, drop, flat_map, slice_get, Some, vec_capacity}
use denote.RawPtr.{Ptr}
use Rattle.core.specs.Mem.{type_size}
use Rattle.chunk_seats.specs.Chunks.{chunk_of}
use Rattle.list_parts.specs.Parts.{part_items, Chain}
use Rattle.list_parts.proofs.part.Part.cut_all.Given as goal

abbrev pub invariant-loop : goal.invariant-loop
invariant-loop g l = record {
  number : length l.parts.items + 1 ≡ l.counter;
  room : l.count ≤ vec_capacity l.parts;
  place : (start : Ptr) → Chain (type_size g.row.T) start (l.fn.self ∷ []) → Chain (type_size g.row.T) start (l.parts.items ++ l.rest ∷ []);
  whole : flat_map part_items (l.parts.items ++ l.rest ∷ []) ≡ part_items l.fn.self;
  items : (c : ℕ) (part : _) → slice_get l.parts.items c ≡ Some part → part_items part ≡ chunk_of l.size (part_items l.fn.self) c;
  rest : part_items l.rest ≡ drop (length l.parts.items * l.size) (part_items l.fn.self);
}
