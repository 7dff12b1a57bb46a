use Rattle.std.proofs.Common.{◌≡◌, ℕ, List, Some, sym, ap, subst, slice_get, ◌∙◌}
use Rattle.std.proofs.lemmas.Option.{slice_get-get_or}
use Rattle.grammar_file.specs.declared.symbols.Symbol.{Symbol}
use Rattle.llp_wide.specs.Added.{Adds}
use Rattle.llp_wide.specs.Claims.{IsStopIn, IsStopBy}
use Rattle.llp_wide.specs.Places.{Spot}
use Rattle.llp_wide.proofs.Additions.{adds_next}
use Rattle.llp_wide.proofs.ClaimLists.{by_spot}
use Rattle.llp_wide.proofs.claims.Ground.add_stops_of.Goals as goal

pub loop-i-preserved : goal.loop-i-preserved
loop-i-preserved c =
    let spots = c.args.places.now in
    let spot : Spot = c.index-places-i.result in
    let is : slice_get spots c.loop-i.i ≡ Some spot = slice_get-get_or spots c.loop-i.i spot c.loop-i-test.true ∙ ap Some (sym c.index-places-i.is) in
    let n = c.args.self.now.nullable.now in
    let f = c.args.self.now.first.now in
    let b = c.args.self.now.b in
    let one : Adds (IsStopIn n f b spot.after spot.before spot.symbol) c.loop-i.waiting.items c.add_stops.new.waiting.items =
    subst (λ (t : List Symbol × ℕ × Symbol). Adds (IsStopIn n f b t.0 t.1 t.2) c.loop-i.waiting.items c.add_stops.new.waiting.items)
    (λ j. (c.context.ensures.after j, c.context.ensures.before j, c.context.ensures.symbol j)) c.in_ok-add_stops.ensures in
    adds_next (IsStopBy n f b spots) c.loop-i.i c.args.waiting.now.items c.loop-i.waiting.items c.add_stops.new.waiting.items c.loop-i.invariant
    (by_spot spots c.loop-i.i spot (λ s. IsStopIn n f b s.after s.before s.symbol) c.loop-i.waiting.items c.add_stops.new.waiting.items is one)
