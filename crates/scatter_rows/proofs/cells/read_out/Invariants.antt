use Rattle.std.proofs.Common.{◌≡◌, ℕ, ◌-◌, ◌<◌, get_or}
use Rattle.std.specs.Mem.Slots.{slots_items}
use Rattle.scatter_rows.proofs.cells.read_out.Given as goal

abbrev pub invariant-loop-c : goal.invariant-loop-c
invariant-loop-c l = (k : ℕ) → k < l.c → get_or l.out k 0 ≡ get_or (slots_items l.closed.words) k 0 - 1
