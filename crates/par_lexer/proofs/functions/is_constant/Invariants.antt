-- All states so far lead to the same.
use Rattle.std.proofs.Common.{◌≡◌, ◌<◌, ℕ}
use Rattle.std.specs.Prelude.{slice_index}
use Rattle.state_monoid.specs.Numbering.{function_of}
use Rattle.par_lexer.proofs.functions.is_constant.Given as goal

abbrev pub invariant-loop-state : goal.invariant-loop-state
invariant-loop-state l = (s : ℕ) → s < l.state → slice_index (function_of l.compositions l.number) s ≡ slice_index (function_of l.compositions l.number) 0
