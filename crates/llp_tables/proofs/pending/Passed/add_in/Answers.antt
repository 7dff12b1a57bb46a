use Rattle.std.proofs.Common.{◌+◌, arith}
use Rattle.std.proofs.lemmas.List.{take_rest}
use Rattle.llp_tables.specs.Forced.{IsPass}
use Rattle.llp_tables.specs.Slots.{One}
use Rattle.llp_tables.proofs.PlaceAdds.{right_none, right_on, right_end, place_next}
use Rattle.llp_tables.proofs.pending.Passed.add_in.Goals as goal

pub loop-k-init : goal.loop-k-init
loop-k-init c = right_none (IsPass c.args.self.now.nullable.now (One c.args.self.now.below.now)) c.args.right.now c.args.pending.now.items

pub loop-k-preserved : goal.loop-k-preserved
loop-k-preserved c =
    right_on (IsPass c.args.self.now.nullable.now (One c.args.self.now.below.now)) c.args.right.now c.loop-k.k c.args.pending.now.items c.loop-k.pending.items c.add.new.pending.items c.loop-k-test.true c.loop-k.invariant
    (place_next (IsPass c.args.self.now.nullable.now (One c.args.self.now.below.now)) c.args.right.now c.loop-k.k _ c.loop-k.pending.items c.add.new.pending.items (take_rest c.args.right.now (c.loop-k.k + 1)) c.in_ok-add.ensures)

pub returns : goal.returns
returns c = right_end (IsPass c.args.self.now.nullable.now (One c.args.self.now.below.now)) c.args.right.now c.loop-k.k c.args.pending.now.items c.loop-k.pending.items (let e = c.loop-k-test.false in omega arith) c.loop-k.invariant
