use Rattle.std.proofs.Common.{◌≡◌, flat_map}
use Rattle.std.specs.List.{range_with_len}
use Rattle.scatter_rows.proofs.alone.join_alone.Given as goal

abbrev pub invariant-loop-c : goal.invariant-loop-c
invariant-loop-c g l = l.out.items ≡ flat_map g.K.Parts.part (range_with_len 0 l.c)
