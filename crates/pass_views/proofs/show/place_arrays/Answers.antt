use Rattle.pass_views.proofs.Showing.{passed_on, places_only}
use Rattle.pass_views.proofs.show.place_arrays.Goals as goal

pub returns-in_err-places-clause-stopped : goal.returns-in_err-places-clause-stopped
returns-in_err-places-clause-stopped g c =
    passed_on c.args.source.now c.from_residual.result c.in_err-places.field-0.0 c.from_residual.ensures.1
    (λ none columns is. let h = places_only c.args.source.now columns is in none h.0 h.1) c.in_err-places.ensures.stopped
