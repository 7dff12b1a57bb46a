use Rattle.std.proofs.Common.{◌≡◌, ◌≤◌, map}
use Rattle.std.specs.List.{range_with_len}
use Rattle.ast_rows.specs.FunctionRows.{owner_at}
use Rattle.ast_rows.proofs.by_hand.all_owners.Given as goal

abbrev pub invariant-loop-k : goal.invariant-loop-k
invariant-loop-k l = (l.owners.items ≡ map (owner_at l.kinds) (range_with_len 0 l.k)) × (l.count ≡ owner_at l.kinds l.k) × (l.count ≤ l.k)
