use Rattle.std.proofs.Common.{ℕ, ◌≤◌, max, length, subst}
use Rattle.chunk_seats.specs.Chunks.{chunk_count}
use Rattle.scan_lookback.specs.Laws.Cutting.{piece_small}
use Rattle.scan_lookback.proofs.Totals.{count_named}
use Rattle.scan_lookback.proofs.scanned.Scanned.scan_together.Goals as goal

pub find_starts-requires-clause-count : goal.find_starts-requires-clause-count
find_starts-requires-clause-count g c = λ κs within. (count_named _ _ _ _ _ _ c.requires.scan.scans _ c.requires.count.0, c.requires.count.1)

pub finish-requires-clause-per : goal.finish-requires-clause-per
finish-requires-clause-per g c = λ κs within.
    let s = c.args.self.now in
    let scan = c.requires.scan in
    let per = c.chunks_each.result in
    let short : per ≤ max (chunk_count s.size (length s.items.now)) 1 = subst (λ (n : ℕ). per ≤ max n 1) c.requires.count.0 c.chunks_each.ensures.small in
    (c.chunks_each.ensures.some, piece_small (length s.items.now) s.size per scan.sized.0 scan.sized.1 scan.short short)
