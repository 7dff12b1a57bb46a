use Rattle.llp_tables.proofs.PlaceAdds.{stops_on}
use Rattle.llp_tables.proofs.pending.Search.add_stops.Goals as goal

pub loop-j-preserved : goal.loop-j-preserved
loop-j-preserved c = stops_on c.args.self.now.nullable.now c.args.self.now.first.now c.args.self.now.b c.args.place.now.after.now c.args.place.now.symbol c.loop-j.j c.args.pending.now.items c.loop-j.pending.items c.add_stop.new.pending.items c.loop-j-test.true c.loop-j.invariant c.in_ok-add_stop.ensures
