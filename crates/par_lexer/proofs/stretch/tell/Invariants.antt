-- The columns so far, and the pieces that are still to come.
use Rattle.std.proofs.Common.{length}
use Rattle.par_lexer.specs.Places.{told_behind, IsReached}
use Rattle.par_lexer.specs.Stretches.{AreTokens, LeadsTo}
use Rattle.par_lexer.proofs.stretch.tell.Given as goal

abbrev pub invariant-loop-piece : goal.invariant-loop-piece
invariant-loop-piece l = record {
  reached : IsReached l.text l.to l.place;
  tokens : AreTokens l.text l.fn.point.place l.place l.columns;
  leads : LeadsTo l.text l.to l.point.place l.point.state;
}

abbrev pub decreases-loop-piece : goal.decreases-loop-piece
decreases-loop-piece l = length (told_behind l.text l.place)
