use Rattle.std.proofs.Common.{◌≡◌, map, take}
use Rattle.source_meaning.specs.Grammar.{terminal_number}
use Rattle.pass_views.proofs.show.numbers_ended.Given as goal

abbrev pub invariant-loop-kind : goal.invariant-loop-kind
invariant-loop-kind l = l.numbers.items ≡ map terminal_number (take l.kind-index l.kinds)
