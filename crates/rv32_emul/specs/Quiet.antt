-- Steps that print nothing.
use Rattle.std.specs.Prelude.{◌≡◌, ℕ, [], Ok}
use Rattle.rv_isa.specs.Effect.{State}
use Rattle.rv32_emul.specs.Machine.{run, numbers}

-- some steps that print nothing lead from a state to another one
pub record IsQuiet (steps : ℕ) (old new : State) : Type 0 where
  pub goes : run steps (Ok old) ≡ Ok new
  pub silent : numbers steps (Ok old) ≡ []
