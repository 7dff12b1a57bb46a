use Rattle.std.proofs.Common.{◌≡◌, ◌≤◌, ℕ, map, drop}
use Rattle.source_meaning.specs.Scope.{function_of as function_named}
use Rattle.tree_interpreter.specs.Trees.{function_of}
use Rattle.tree_interpreter.specs.Weights.{heaviest}
use Rattle.tree_interpreter.proofs.interpreter.Walker.function.Given as goal

abbrev pub invariant-loop-f : goal.invariant-loop-f
invariant-loop-f l =
    (function_named (map (λ f. function_of f.function.now) l.self.functions.now) l.name ≡ function_named (map (λ f. function_of f.function.now) (drop l.f-index l.self.functions.now)) l.name)
    × ((calls : ℕ) → heaviest calls l.self.turns (drop l.f-index l.self.functions.now) ≤ heaviest calls l.self.turns l.self.functions.now)
