use Rattle.std.proofs.Common.{Some, ap, sym, subst, ◌∙◌, length, arith}
use Rattle.std.proofs.lemmas.Option.{slice_get-get_or}
use Rattle.llp_tables.specs.Forced.{Forces, IsForced, IsForcedBy, no_strings}
use Rattle.llp_tables.specs.Slots.{Empty}
use Rattle.llp_tables.specs.Waiting.{Adds}
use Rattle.llp_tables.proofs.PlaceAdds.{rules_none, rules_on, rules_end}
use Rattle.llp_tables.proofs.pending.Search.add_stops_of.Goals as goal

pub loop-i-init : goal.loop-i-init
loop-i-init c = rules_none (Forces c.args.self.now.nullable.now c.args.self.now.first.now c.args.self.now.b no_strings) c.args.productions.now c.args.pending.now.items

pub loop-i-preserved : goal.loop-i-preserved
loop-i-preserved c =
    let is = slice_get-get_or c.args.productions.now c.loop-i.i c.index-productions-i.result c.loop-i-test.true ∙ ap Some (sym c.index-productions-i.is) in
    rules_on (Forces c.args.self.now.nullable.now c.args.self.now.first.now c.args.self.now.b no_strings) c.args.productions.now c.loop-i.i c.index-productions-i.result c.args.pending.now.items c.loop-i.pending.items c.add_stops_in.new.pending.items is c.loop-i.invariant
    (subst (λ r. Adds (IsForcedBy (IsForced c.args.self.now.nullable.now c.args.self.now.first.now c.args.self.now.b Empty) r (length r)) c.loop-i.pending.items c.add_stops_in.new.pending.items) c.right-right.ensures c.in_ok-add_stops_in.ensures)

pub returns : goal.returns
returns c = rules_end (Forces c.args.self.now.nullable.now c.args.self.now.first.now c.args.self.now.b no_strings) c.args.productions.now c.loop-i.i c.args.pending.now.items c.loop-i.pending.items (let e = c.loop-i-test.false in omega arith) c.loop-i.invariant
