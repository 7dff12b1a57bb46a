use Rattle.std.proofs.Common.{ℕ, ◌+◌, sym, ap, subst, ◌∙◌, arith}
use Rattle.std.specs.Mem.{type_size}
use Rattle.deal_board.specs.Returned.{Returned}
use Rattle.list_parts.specs.Laws.Chains.{fits_less}
use Rattle.par_passes.proofs.Gluing.{Glued, one, behind, fits, next}
use Rattle.par_passes.proofs.dealt.glue_back.Goals as goal

pub loop-part-init : goal.loop-part-init
loop-part-init g c =
    let given = c.requires.all in let first = c.in-Some.ensures.some in let parts = g.N.Goods.items in let good = g.N.Goods.good in let none_taken = ap (λ (r : Returned). r.taken) given.0 in record {
      count = ap (λ (r : Returned). r.count) first.2 ∙ ap (λ (r : Returned). r.count) given.0;
      glued = subst (λ (k : ℕ). Glued (type_size g.row.U) parts good k c.in-Some.whole) (sym (ap (λ (r : Returned). r.taken) first.2 ∙ ap (λ (k : ℕ). k + 1) none_taken))
          (one (type_size g.row.U) parts good c.requires.in_place c.in-Some.whole given.1 (subst (λ (k : ℕ). good k c.in-Some.whole) none_taken first.0));
    }

pub glue-whole-requires-clause-neighbours : goal.glue-whole-requires-clause-neighbours
glue-whole-requires-clause-neighbours g c =
    let more = c.in-Some-take_next.ensures.some in let inv = c.loop-part.invariant in
    behind (type_size g.row.U) g.N.Goods.items g.N.Goods.good c.requires.in_place c.loop-part.left.taken c.loop-part.whole c.in-Some-take_next.part (omega (arith, more.1, inv.count)) more.0 inv.glued c.requires.place.0 c.requires.place.1

pub glue-whole-requires-clause-size : goal.glue-whole-requires-clause-size
glue-whole-requires-clause-size g c =
    let more = c.in-Some-take_next.ensures.some in let inv = c.loop-part.invariant in
    fits_less _ _ _ (fits (type_size g.row.U) g.N.Goods.items g.N.Goods.good c.requires.in_place c.loop-part.left.taken c.loop-part.whole c.in-Some-take_next.part (omega (arith, more.1, inv.count)) more.0 inv.glued) c.requires.size

pub loop-part-preserved : goal.loop-part-preserved
loop-part-preserved g c =
    let more = c.in-Some-take_next.ensures.some in let inv = c.loop-part.invariant in let parts = g.N.Goods.items in let good = g.N.Goods.good in record {
      count = ap (λ (r : Returned). r.count) more.2 ∙ inv.count;
      glued = subst (λ (k : ℕ). Glued (type_size g.row.U) parts good k c.glue-whole.result) (sym (ap (λ (r : Returned). r.taken) more.2))
          (next (type_size g.row.U) parts good c.requires.in_place c.loop-part.left.taken c.loop-part.whole c.in-Some-take_next.part (omega (arith, more.1, inv.count)) more.0 inv.glued c.glue-whole.result c.glue-whole.ensures.place c.glue-whole.ensures.items);
    }
