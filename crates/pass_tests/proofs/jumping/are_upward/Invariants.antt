use Rattle.std.proofs.Common.{◌≡◌, ℕ, ◌<◌, Some, length}
use Rattle.pointer_jumping.specs.Climbs.{parent_of}
use Rattle.pass_tests.proofs.jumping.are_upward.Given as goal

abbrev pub invariant-loop-node : goal.invariant-loop-node
invariant-loop-node l = (k p : ℕ) → k < l.node → parent_of l.parents k ≡ Some p → (k < p) × (p < length l.parents)
