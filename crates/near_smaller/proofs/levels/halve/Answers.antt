use Rattle.near_smaller.proofs.Halving.{halved_out}
use Rattle.near_smaller.proofs.levels.halve.Goals as goal

pub returns : goal.returns
returns g c =
    halved_out c.args.level.now c.as_chunks.result.0.now c.in_ok-upper.upper.items c.reserve_exact.new.self.items c.extend_from_slice.new.self.items c.as_chunks.result.1.now
    c.as_chunks.ensures.front c.as_chunks.ensures.back c.in_ok-upper.ensures c.reserve_exact.ensures.items c.in_ok-extend_from_slice.ensures.items
