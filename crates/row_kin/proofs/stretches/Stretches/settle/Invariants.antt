-- What the loop of `Stretches::settle` keeps.
use Rattle.std.proofs.Common.{◌≡◌, length}
use Rattle.list_cuts.specs.Cuts.{start_of}
use Rattle.row_kin.specs.Settles.{Done, Stretched}
use Rattle.row_kin.proofs.stretches.Stretches.settle.Given as goal

abbrev pub invariant-loop-end : goal.invariant-loop-end
invariant-loop-end l = record {
  here : l.from ≡ start_of l.self.ends.now l.end-index;
  done : Done l.self.lows.now l.parents l.firsts l.places l.from;
  rest : Stretched l.self.lows.now l.parents l.firsts l.places l.self.ends.now l.end-index (length l.self.ends.now);
}
