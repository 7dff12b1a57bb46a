use Rattle.std.proofs.Common.{sym, ◌∙◌}
use Rattle.llp_wide.specs.Claims.{IsStopAt}
use Rattle.llp_wide.proofs.Additions.{adds_next}
use Rattle.llp_wide.proofs.ClaimLists.{last_stop}
use Rattle.llp_wide.proofs.claims.Ground.add_stops.Goals as goal

pub loop-j-preserved : goal.loop-j-preserved
loop-j-preserved c =
    let g = c.args.self.now in
    let x = c.args.context in
    adds_next (IsStopAt g.nullable.now g.first.now g.b x.after.now x.before x.symbol) c.loop-j.j c.args.waiting.now.items c.loop-j.waiting.items c.add_stop.new.waiting.items c.loop-j.invariant c.in_ok-add_stop.ensures

pub returns-then-not-all_vanish : goal.returns-then-not-all_vanish
returns-then-not-all_vanish c =
    let g = c.args.self.now in
    let x = c.args.context in
    last_stop g.nullable.now g.first.now g.b x.after.now x.before x.symbol c.loop-j.j c.args.waiting.now.items c.add_stop.new.waiting.items c.loop-j-test.true (sym c.all_vanish.ensures ∙ c.if-not-all_vanish.true)
    (adds_next (IsStopAt g.nullable.now g.first.now g.b x.after.now x.before x.symbol) c.loop-j.j c.args.waiting.now.items c.loop-j.waiting.items c.add_stop.new.waiting.items c.loop-j.invariant c.in_ok-add_stop.ensures)
