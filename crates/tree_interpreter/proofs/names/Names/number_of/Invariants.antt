use Rattle.std.proofs.Common.{◌≡◌, ◌≤◌, length, take}
use Rattle.tree_interpreter.specs.Running.{number_named, named, named_in}
use Rattle.tree_interpreter.proofs.names.Names.number_of.Given as goal

abbrev pub invariant-loop-rest : goal.invariant-loop-rest
invariant-loop-rest l =
    (l.rest ≤ length l.self.all.items)
    × (number_named (named l.self) l.name ≡ number_named (named_in (take l.rest l.self.all.items)) l.name)

abbrev pub decreases-loop-rest : goal.decreases-loop-rest
decreases-loop-rest l = l.rest
