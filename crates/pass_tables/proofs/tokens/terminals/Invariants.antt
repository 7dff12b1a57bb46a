use Rattle.std.proofs.Common.{◌≡◌, map, take}
use Rattle.std.specs.Prelude.{codes}
use Rattle.source_meaning.specs.Grammar.{terminal_name}
use Rattle.pass_tables.specs.Tables.{texts}
use Rattle.pass_tables.proofs.tokens.terminals.Given as goal

abbrev pub invariant-loop-terminal : goal.invariant-loop-terminal
invariant-loop-terminal l = l.column ≡ texts (codes "terminal") (map terminal_name (take l.terminal-index l.terminals))
