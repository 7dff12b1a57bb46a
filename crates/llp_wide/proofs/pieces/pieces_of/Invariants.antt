use Rattle.std.proofs.Common.{◌≡◌, length}
use Rattle.llp_wide.specs.StackPieces.{AreMadeFor}
use Rattle.llp_wide.proofs.pieces.pieces_of.Given as goal

abbrev pub invariant-loop-n : goal.invariant-loop-n
invariant-loop-n l = record { made : AreMadeFor l.grammar l.stacks l.pieces.items; len : length l.pieces.items ≡ l.n }
