use Rattle.std.proofs.Common.{◌≡◌, ◌+◌, ◌<◌, map, take}
use Rattle.std.specs.Prelude.{codes}
use Rattle.std.specs.List.{range_with_len}
use Rattle.state_monoid.specs.Automaton.{run}
use Rattle.pass_tables.specs.Tables.{numbers}
use Rattle.pass_tables.proofs.states.states_behind.Given as goal

abbrev pub invariant-loop-byte : goal.invariant-loop-byte
invariant-loop-byte l = record {
  column_is : l.column ≡ numbers (codes "state") (map (λ k. run l.dfa 0 (take (k + 1) l.text)) (range_with_len 0 l.byte-index));
  state_is : l.state ≡ run l.dfa 0 (take l.byte-index l.text);
  within : l.state < l.dfa.states;
}
