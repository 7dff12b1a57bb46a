use Rattle.std.proofs.Common.{rules, ℕ, [], ap, subst, sym, ◌∙◌, arith}
use Rattle.std.specs.List.{range_with_len}
use Rattle.deal_board.specs.Returned.{Returned}
use Rattle.par_passes.specs.Passes.{Gives}
use Rattle.par_passes.specs.Laws.Giving.{gives_none}
use Rattle.kin_pass.proofs.Ranges.{given_many, given_next}
use Rattle.kin_pass.proofs.dealt.in_order.Goals as goal

pub loop-item-init : goal.loop-item-init
loop-item-init g c =
    let good = g.N.Goods.good in record {
      count = ap (λ (r : Returned). r.count) c.requires.all;
      room = c.requires.room.1;
      good = subst (λ (k : ℕ). Gives good (range_with_len 0 k) c.args.room.items) (sym (ap (λ (r : Returned). r.taken) c.requires.all)) (subst (Gives good []) (sym c.requires.room.0) (gives_none good));
    }

pub push_reserved-requires : goal.push_reserved-requires
push_reserved-requires g c =
    let more = c.in-Some.ensures.some in
    let inv = c.loop-item.invariant in
    let many = given_many g.N.Goods.good c.loop-item.left.taken c.loop-item.out.items inv.good in
    let len = c.loop-item.out.ok.0 in
    omega (arith, more.1, inv.count, inv.room, many, len)

pub loop-item-preserved : goal.loop-item-preserved
loop-item-preserved g c =
    let more = c.in-Some.ensures.some in
    let inv = c.loop-item.invariant in
    let good = g.N.Goods.good in record {
      count = ap (λ (r : Returned). r.count) more.2 ∙ inv.count;
      room = search rules;
      good = subst (λ (k : ℕ). Gives good (range_with_len 0 k) c.push_reserved.new.self.items) (sym (ap (λ (r : Returned). r.taken) more.2))
          (given_next good c.loop-item.left.taken c.loop-item.out.items c.push_reserved.new.self.items c.in-Some.item c.push_reserved.ensures.items more.0 inv.good);
    }
