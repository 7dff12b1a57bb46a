-- What is known of stretches before their fronts are told.
use Rattle.std.specs.Prelude.{◌≤◌, ◌^◌, length}
use Rattle.list_cuts.specs.Cuts.{AreCuts}
use Rattle.par_lexer.specs.Known.{AreFunctions}
use Rattle.par_lexer.specs.Stretches.{ArePartsOf, AreStatesBefore}
use Rattle.par_lexer.specs.declared.fronts.Stretches.{Stretches}

-- they cut the text, and what each tells by itself is known, and the state before each
pub record AreReady (s : Stretches) : Type 0 where
  pub short : length s.text.now ≤ 2 ^ 24
  pub functions : AreFunctions s.functions.now
  pub cut : AreCuts s.ends.now (length s.text.now)
  pub parts : ArePartsOf s.functions.now.compositions s.text.now s.ends.now s.parts.now
  pub states : AreStatesBefore s.text.now s.ends.now s.parts.now s.states.now
