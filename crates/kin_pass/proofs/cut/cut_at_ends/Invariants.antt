-- The parts of the stretches so far, and the rest.
use Rattle.std.proofs.Common.{◌≡◌, ℕ, ◌+◌, ◌≤◌, [], ◌∷◌, ◌++◌, length, map, flat_map, slice_get, Some, vec_capacity}
use Rattle.list_cuts.specs.Cuts.{start_of}
use Rattle.list_parts.specs.Parts.{part_items, part_start, Chain}
use Rattle.kin_pass.specs.Lists.{AreWide, EachList, rows_in}
use Rattle.kin_pass.proofs.cut.cut_at_ends.Given as goal

abbrev pub invariant-loop-c : goal.invariant-loop-c
invariant-loop-c l = record {
  number : length l.parts.items ≡ l.c;
  room : length l.ends ≤ vec_capacity l.parts;
  place : EachList (λ list. Chain 4 (part_start (list l.fn.whole)) (map list (l.parts.items ++ l.rest ∷ [])));
  whole : EachList (λ list. flat_map part_items (map list (l.parts.items ++ l.rest ∷ [])) ≡ part_items (list l.fn.whole));
  wide : (c : ℕ) (x : _) → slice_get l.parts.items c ≡ Some x → AreWide (rows_in l.ends c) x;
  left : EachList (λ list. start_of l.ends l.c + length (part_items (list l.rest)) ≡ length (part_items (list l.fn.whole)));
}
