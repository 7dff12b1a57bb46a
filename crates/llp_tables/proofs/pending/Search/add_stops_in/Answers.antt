use Rattle.std.proofs.Common.{◌+◌, get_or, arith}
use Rattle.std.proofs.lemmas.List.{take_rest}
use Rattle.grammar_file.specs.declared.symbols.Symbol.TheVariants.{Terminal}
use Rattle.llp_tables.specs.Forced.{IsForced}
use Rattle.llp_tables.specs.Slots.{Empty}
use Rattle.llp_tables.proofs.PlaceAdds.{right_none, right_on, right_end, place_next, stops_alone}
use Rattle.llp_tables.proofs.pending.Search.add_stops_in.Goals as goal

pub loop-k-init : goal.loop-k-init
loop-k-init c = right_none (IsForced c.args.self.now.nullable.now c.args.self.now.first.now c.args.self.now.b Empty) c.args.right.now c.args.pending.now.items

pub loop-k-preserved : goal.loop-k-preserved
loop-k-preserved c =
    right_on (IsForced c.args.self.now.nullable.now c.args.self.now.first.now c.args.self.now.b Empty) c.args.right.now c.loop-k.k c.args.pending.now.items c.loop-k.pending.items c.add_stops.new.pending.items c.loop-k-test.true c.loop-k.invariant
    (place_next (IsForced c.args.self.now.nullable.now c.args.self.now.first.now c.args.self.now.b Empty) c.args.right.now c.loop-k.k _ c.loop-k.pending.items c.add_stops.new.pending.items (take_rest c.args.right.now (c.loop-k.k + 1))
    (stops_alone c.args.self.now.nullable.now c.args.self.now.first.now c.args.self.now.b _ (get_or c.args.right.now c.loop-k.k (Terminal 0)) c.loop-k.pending.items c.add_stops.new.pending.items c.in_ok-add_stops.ensures))

pub returns : goal.returns
returns c = right_end (IsForced c.args.self.now.nullable.now c.args.self.now.first.now c.args.self.now.b Empty) c.args.right.now c.loop-k.k c.args.pending.now.items c.loop-k.pending.items (let e = c.loop-k-test.false in omega arith) c.loop-k.invariant
