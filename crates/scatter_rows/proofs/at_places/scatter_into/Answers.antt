use Rattle.std.proofs.Common.{◌<◌, ◌/◌, List, ℕ, length, sym, subst, arith}
use Rattle.scatter_rows.proofs.Covering.{chunk_has}
use Rattle.scatter_rows.proofs.at_places.scatter_into.Goals as goal

pub returns : goal.returns
returns g c =
    let size = c.plan-plan.result.chunk in
    let put = c.in_ok-board.ensures.put in
    record {
      wide = c.close.auto.out;
      placed = λ i h.
          let near : i < length c.args.places.now = subst (λ (l : List ℕ). i < length l) (sym c.requires.pairs.0) h in
          let chunk = chunk_has size (length c.args.places.now) i c.plan-plan.result.chunk_in_range.0 near in
          c.close.ensures.placed i (put (i / size) i (omega (arith, chunk.0, c.count_chunks-count.ensures)) chunk.1);
      free = c.close.ensures.free;
    }
