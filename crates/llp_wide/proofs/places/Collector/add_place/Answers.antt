use Rattle.std.proofs.Common.{◌+◌, sym, ◌∙◌}
use Rattle.std.proofs.lemmas.Option.{slice_get-get_or}
use Rattle.std.proofs.lemmas.List.{take_rest}
use Rattle.llp_wide.proofs.SpotLists.{spot_added}
use Rattle.llp_wide.proofs.places.Collector.add_place.Goals as goal

pub returns : goal.returns
returns c =
    let s = c.args.self.now in
    let item = c.args.item in
    spot_added s.nullable.now s.all.now s.owner item.right.now item.dot c.args.y _ c.in_ok-after.after.items c.args.places.now.items c.push.new.self.items
    (sym (c.is_reached.ensures c.requires.terminal) ∙ c.if-not-is_reached.false) (slice_get-get_or item.right.now item.dot _ c.requires.symbol) (c.in_ok-after.ensures.items ∙ take_rest item.right.now (item.dot + 1)) c.in_ok-push.ensures.items
