use Rattle.std.proofs.Common.{◌≡◌, map, take}
use Rattle.source_meaning.specs.Scope.{params_scope, no_scope}
use Rattle.tree_interpreter.specs.Trees.{param_of}
use Rattle.tree_interpreter.specs.Running.{named, name_of}
use Rattle.tree_interpreter.proofs.names.Names.declare_all.Given as goal

abbrev pub invariant-loop-param : goal.invariant-loop-param
invariant-loop-param l =
    (l.number ≡ l.param-index)
    × (named l.self ≡ map name_of (params_scope no_scope (map param_of (take l.param-index l.params))).variables)
