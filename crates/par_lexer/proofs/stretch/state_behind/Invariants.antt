-- The state behind the bytes so far.
use Rattle.std.proofs.Common.{◌≡◌, ◌<◌, take}
use Rattle.state_monoid.specs.Automaton.{run}
use Rattle.par_lexer.specs.Table.{lexer}
use Rattle.par_lexer.proofs.stretch.state_behind.Given as goal

abbrev pub invariant-loop-byte : goal.invariant-loop-byte
invariant-loop-byte l = (l.behind ≡ run lexer l.fn.state (take l.byte-index l.bytes)) × (l.behind < 16)
