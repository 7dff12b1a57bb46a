use Rattle.std.proofs.Common.{ap}
use Rattle.par_passes.proofs.dealt.fill_drawn.Goals as goal

pub item_mut-requires-clause-hand : goal.item_mut-requires-clause-hand
item_mut-requires-clause-hand g c = let dealt = c.in-Some.ensures.some.1 in (dealt.0, ap (λ s. s.hand) dealt.1)
