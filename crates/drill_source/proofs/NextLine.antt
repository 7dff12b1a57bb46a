-- One line more of a text.
use Rattle.std.proofs.Common.{◌≡◌, ℕ, ◌+◌, suc, ◌++◌, ap}
use Rattle.drill_source.specs.Drill.{drawn, function_line, function_lines, next_state}

pub next_line : (n m i x : ℕ) → n ≡ suc m → function_lines n i x ≡ function_line i (drawn (next_state x)) (drawn (next_state (next_state x))) (drawn (next_state (next_state (next_state x)))) ++ function_lines m (i + 1) (next_state (next_state (next_state x)))
next_line n m i x e = ap (λ k. function_lines k i x) e
