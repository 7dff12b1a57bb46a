use Rattle.std.proofs.Common.{List, Some, sym, ap, ◌∙◌, subst}
use Rattle.std.proofs.lemmas.Option.{slice_get-get_or}
use Rattle.std.proofs.lemmas.Result.{IfOk-weaker}
use Rattle.grammar_file.specs.declared.symbols.Symbol.{Symbol}
use Rattle.llp_wide.specs.Added.{Adds}
use Rattle.llp_wide.specs.Places.{IsSpotIn}
use Rattle.llp_wide.proofs.SpotLists.{own_rule}
use Rattle.llp_wide.proofs.places.Collector.add_places_by.Goals as goal

pub returns : goal.returns
returns c =
    let s = c.args.self.now in
    IfOk-weaker c.add_places_in.result _ _
    (λ u h. own_rule s.nullable.now s.all.now s.owner c.args.productions.now c.args.i c.index-productions-i.result c.args.places.now.items c.add_places_in.new.places.items
    (slice_get-get_or c.args.productions.now c.args.i _ c.requires.within ∙ ap Some (sym c.index-productions-i.is)) (sym c.left.ensures ∙ c.if-left-self.false)
    (subst (λ (right : List Symbol). Adds (IsSpotIn s.nullable.now s.all.now s.owner right) c.args.places.now.items c.add_places_in.new.places.items) c.right.ensures h))
    c.add_places_in.ensures
