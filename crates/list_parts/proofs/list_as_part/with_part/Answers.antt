use Rattle.std.proofs.Common.{List, length, sym, ◌∙◌, subst}
use Rattle.list_parts.specs.Parts.{Fits}
use Rattle.list_parts.proofs.list_as_part.with_part.Goals as goal

pub returns : goal.returns
returns g c = let e = c.with_slots.ensures in let held = e.3.1 in let are = held.2.items ∙ e.2.are in
    (held.0, held.1, record { are = are; fits = subst (λ (xs : List g.row.T.Denot). Fits _ (length xs)) are held.2.fits }, held.3, e.4 ∙ sym held.4.items)
