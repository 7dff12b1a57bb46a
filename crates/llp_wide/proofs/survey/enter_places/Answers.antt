use Rattle.std.proofs.Common.{◌≡◌, ◌<◌, subst, sym, Some, ap, ◌∙◌, slice_get}
use Rattle.std.proofs.lemmas.Option.{slice_get-get_or, same_Some}
use Rattle.llp_wide.specs.Places.{Spot}
use Rattle.llp_wide.specs.Surveys.{Opens, place_of}
use Rattle.llp_wide.proofs.Finding.{finds_next, finds_as, in_at}
use Rattle.llp_wide.proofs.survey.enter_places.Goals as goal

pub enter_place-requires : goal.enter_place-requires
enter_place-requires c = λ e h.
    let is : slice_get c.args.places.now c.loop-k.k ≡ Some c.index-places-k.result = slice_get-get_or c.args.places.now c.loop-k.k c.index-places-k.result c.loop-k-test.true ∙ ap Some (sym c.index-places-k.is) in
    let r = c.requires c.index-places-k.result (in_at c.args.places.now c.loop-k.k c.index-places-k.result is) e h in
    (r.0, subst (λ n. place_of c.args.count e < n) (sym c.loop-k.invariant.size) r.1)

pub loop-k-preserved : goal.loop-k-preserved
loop-k-preserved c =
    let spots = c.args.places.now in
    let is : slice_get spots c.loop-k.k ≡ Some c.index-places-k.result = slice_get-get_or spots c.loop-k.k c.index-places-k.result c.loop-k-test.true ∙ ap Some (sym c.index-places-k.is) in
    finds_next c.args.count (λ k e. (spot : Spot) × (slice_get spots k ≡ Some spot) × Opens spot e) c.loop-k.k c.args.marks.now.items c.args.waiting.now.items c.loop-k.marks.items c.loop-k.waiting.items c.enter_place.new.marks.items c.enter_place.new.waiting.items
    c.loop-k.invariant
    (finds_as c.args.count (Opens c.index-places-k.result) (λ e. (spot : Spot) × (slice_get spots c.loop-k.k ≡ Some spot) × Opens spot e) c.loop-k.marks.items c.loop-k.waiting.items c.enter_place.new.marks.items c.enter_place.new.waiting.items
    (λ e h. (c.index-places-k.result, is, h)) (λ e h. subst (λ (s : Spot). Opens s e) (same_Some h.0 c.index-places-k.result (sym h.1 ∙ is)) h.2) c.in_ok-enter_place.ensures)
