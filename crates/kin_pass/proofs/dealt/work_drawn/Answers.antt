use Rattle.std.proofs.Common.{rules, ◌≡◌, Some, ap, ◌∙◌}
use Rattle.kin_pass.proofs.Ranges.{second_is}
use Rattle.kin_pass.proofs.dealt.work_drawn.Goals as goal

pub item_mut-requires-clause-hand : goal.item_mut-requires-clause-hand
item_mut-requires-clause-hand g c = let dealt = c.in-Some.ensures.some.1 in (dealt.0, ap (λ s. s.hand) dealt.1)

pub loop-c-preserved : goal.loop-c-preserved
loop-c-preserved g c =
    let dealt = c.in-Some.ensures.some.1 in
    let item = c.item_mut.result.now in
    let same : dealt.0 ≡ item = second_is c.in-Some.c dealt.0 item c.deal.new.seat.hand (ap (λ s. s.hand) dealt.1) c.item_mut.ensures.value in
    record {
      board = search rules;
      weight = search rules;
      unspent = search rules;
      good = c.requires.serves.fine c.in-Some.c item c.work_on.new.item (dealt.2 ∙ ap Some same) c.work_on.ensures;
    }
