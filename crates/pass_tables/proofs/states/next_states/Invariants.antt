use Rattle.std.proofs.Common.{◌≡◌, map, take}
use Rattle.state_monoid.specs.Automaton.{step}
use Rattle.pass_tables.specs.Tables.{numbers}
use Rattle.pass_tables.proofs.states.next_states.Given as goal

abbrev pub invariant-loop-byte : goal.invariant-loop-byte
invariant-loop-byte l = l.column ≡ numbers l.title (map (step l.dfa l.state) (take l.byte-index l.text))
