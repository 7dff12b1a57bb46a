use Rattle.std.proofs.Common.{◌≡◌, ◌-◌, ◌≤◌, length, vec_capacity}
use Rattle.std.specs.List.{range_with_len}
use Rattle.par_passes.specs.Passes.{Gives}
use Rattle.kin_pass.proofs.dealt.in_order.Given as goal

abbrev pub invariant-loop-item : goal.invariant-loop-item
invariant-loop-item g l = record {
  count : l.left.count ≡ length g.N.Goods.items;
  room : length g.N.Goods.items ≤ vec_capacity l.out;
  good : Gives g.N.Goods.good (range_with_len 0 l.left.taken) l.out.items;
}

abbrev pub decreases-loop-item : goal.decreases-loop-item
decreases-loop-item g l = l.left.count - l.left.taken
