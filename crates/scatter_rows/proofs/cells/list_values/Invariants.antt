use Rattle.std.proofs.Common.{◌≡◌, ◌-◌, map, get_or}
use Rattle.std.specs.List.{range_with_len}
use Rattle.std.specs.Mem.Slots.{slots_items}
use Rattle.scatter_rows.proofs.cells.list_values.Given as goal

abbrev pub invariant-loop-c : goal.invariant-loop-c
invariant-loop-c l = l.list.items ≡ map (λ k. get_or (slots_items l.closed.words) k 0 - 1) (range_with_len 0 l.c)
