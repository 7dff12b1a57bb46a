use Rattle.std.proofs.Common.{◌<◌, length, ap, arith}
use Rattle.board_core.proofs.Standing.{split_seats}
use Rattle.board_core.proofs.state.State.split.Goals as goal

pub returns-clause-ok : goal.returns-clause-ok
returns-clause-ok g c =
    let s = c.self.inside in
    let near : c.args.a < length s.seats.items = omega (arith, c.requires.there, ap (λ s. length s.seats) c.self.view_is) in
    let seats = split_seats s.seats.items c.push.new.self.items c.args.a c.args.n c.new.result c.index_mut.result.now c.give.new.self near c.in_ok-push.ensures.items c.new.ensures c.index_mut.ensures.value c.give.ensures in
    rw (← c.self.view_is) (λ i. record { counter = s.counter; finished = s.finished; statuses = s.statuses.items; seats = seats i })
