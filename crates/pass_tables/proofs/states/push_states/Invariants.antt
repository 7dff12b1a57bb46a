use Rattle.std.proofs.Common.{◌≡◌, ◌++◌, map}
use Rattle.std.specs.List.{range_with_len}
use Rattle.pass_tables.specs.Tables.{next_states}
use Rattle.pass_tables.proofs.states.push_states.Given as goal

abbrev pub invariant-loop-state : goal.invariant-loop-state
invariant-loop-state l = l.columns.items ≡ l.initial.columns.items ++ map (next_states l.dfa l.text) (range_with_len 0 l.state)
