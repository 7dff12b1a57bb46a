-- A hardware thread, as contracts see it.
use Rattle.std.specs.Prelude.{ℕ, List}

pub record HartState : Type 0 where
  pub pc : ℕ
  pub registers : List ℕ
