use Rattle.std.proofs.Common.{◌≡◌, ◌-◌, length}
use Rattle.std.specs.Mem.{type_size}
use Rattle.par_passes.proofs.Gluing.{Glued}
use Rattle.par_passes.proofs.dealt.glue_back.Given as goal

abbrev pub invariant-loop-part : goal.invariant-loop-part
invariant-loop-part g l = record {
  count : l.left.count ≡ length g.N.Goods.items;
  glued : Glued (type_size g.row.U) g.N.Goods.items g.N.Goods.good l.left.taken l.whole;
}

abbrev pub decreases-loop-part : goal.decreases-loop-part
decreases-loop-part g l = l.left.count - l.left.taken
