-- The tokens so far.
use Rattle.list_cuts.specs.Cuts.{start_of}
use Rattle.par_lexer.specs.Stretches.{AreTokens}
use Rattle.par_lexer.proofs.joined.join.Given as goal

abbrev pub invariant-loop-c : goal.invariant-loop-c
invariant-loop-c l = AreTokens l.text 0 (start_of l.ends l.c) l.columns
