use Rattle.std.proofs.Common.{◌++◌, refl, ◌∙◌}
use Rattle.board_core.proofs.Standing.{joined_is}
use Rattle.board_core.proofs.seat.Seat.joined.Goals as goal

pub returns : goal.returns
returns g c =
    let s = c.self.inside in
    let t = c.other.inside in
    rw (← c.self.view_is, ← c.other.view_is)
    (joined_is
    (record { share = s.share; weight = s.weight; claimed = s.claimed.items; done = s.done.items; shown = s.shown.items; sealed = s.sealed.items; looked = s.looked.items })
    (record { share = t.share; weight = t.weight; claimed = t.claimed.items; done = t.done.items; shown = t.shown.items; sealed = t.sealed.items; looked = t.looked.items })
    _ _ _ _ _ _ _ c.shares_of.ensures refl
    (c.in_ok-concatenated.ensures ∙ (λ i. c.as_slice.ensures.value i ++ c.as_slice-2.ensures.value i))
    (c.in_ok-concatenated-2.ensures ∙ (λ i. c.as_slice-3.ensures.value i ++ c.as_slice-4.ensures.value i))
    (c.in_ok-concatenated-3.ensures ∙ (λ i. c.as_slice-5.ensures.value i ++ c.as_slice-6.ensures.value i))
    (c.in_ok-concatenated-4.ensures ∙ (λ i. c.as_slice-7.ensures.value i ++ c.as_slice-8.ensures.value i))
    (c.in_ok-concatenated-5.ensures ∙ (λ i. c.as_slice-9.ensures.value i ++ c.as_slice-10.ensures.value i)))
