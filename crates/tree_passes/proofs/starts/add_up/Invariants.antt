-- What is added up before each stretch.
use Rattle.std.proofs.Common.{◌≡◌, suc, map}
use Rattle.std.specs.List.{range_with_len}
use Rattle.list_cuts.specs.Cuts.{start_of}
use Rattle.row_pieces.specs.Stretches.{kids_in, reads_in}
use Rattle.tree_passes.specs.Stretches.{start_of_stretch}
use Rattle.tree_passes.proofs.starts.add_up.Given as goal

abbrev pub invariant-loop-c : goal.invariant-loop-c
invariant-loop-c l = record {
  kids : l.kids ≡ kids_in l.parse.numbers.now (start_of l.parse.ends.now l.c) 0;
  read : l.read ≡ reads_in l.parse.numbers.now (start_of l.parse.ends.now l.c) 0;
  starts : l.starts.items ≡ map (start_of_stretch l.parse.numbers.now l.parse.ends.now) (range_with_len 0 (suc l.c));
}
