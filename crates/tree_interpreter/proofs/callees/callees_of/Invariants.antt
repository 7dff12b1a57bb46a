use Rattle.std.proofs.Common.{◌≡◌, map, take}
use Rattle.tree_interpreter.proofs.callees.callees_of.Given as goal

abbrev pub invariant-loop-function : goal.invariant-loop-function
invariant-loop-function l = map (λ c. c.function.now) l.callees.items ≡ take l.function-index l.functions
