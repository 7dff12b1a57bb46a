-- The states so far, and the next.
use Rattle.std.proofs.Common.{◌≡◌, ◌<◌, ℕ, length}
use Rattle.list_cuts.specs.Cuts.{number_at, start_of}
use Rattle.par_lexer.specs.Places.{state_before}
use Rattle.par_lexer.proofs.fronts.states_before.Given as goal

abbrev pub invariant-loop-c : goal.invariant-loop-c
invariant-loop-c l = record {
  next : l.state ≡ state_before l.text (start_of l.ends l.c);
  below : l.state < 16;
  many : length l.states.items ≡ l.c;
  each : (k : ℕ) → k < length l.states.items → number_at l.states.items k ≡ state_before l.text (start_of l.ends k);
}
