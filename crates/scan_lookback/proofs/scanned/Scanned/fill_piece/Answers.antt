use Rattle.std.proofs.Common.{length, arith}
use Rattle.scan_lookback.specs.Laws.Cutting.{piece_gives, piece_filled, all_range}
use Rattle.scan_lookback.proofs.Filling.{start_near, start_is, start_item}
use Rattle.scan_lookback.proofs.scanned.Scanned.fill_piece.Given as given
use Rattle.scan_lookback.proofs.scanned.Scanned.fill_piece.Goals as goal

pub offset_bounds-starts-c : goal.offset_bounds-starts-c
offset_bounds-starts-c g c =
    let scan = c.requires.scan in
    let place = c.requires.place in
    omega (arith, start_near _ _ _ _ _ _ scan.scans (g.met.M.WordMonoid.lawful c.args.self.now.monoid.now) scan.sized.0 _ _ _ c.first_chunk-c.ensures place.1 place.2 c.args.starts.now c.requires.starts)

pub bounds-starts-c : goal.bounds-starts-c
bounds-starts-c g c =
    let scan = c.requires.scan in
    let place = c.requires.place in
    start_near _ _ _ _ _ _ scan.scans (g.met.M.WordMonoid.lawful c.args.self.now.monoid.now) scan.sized.0 _ _ _ c.first_chunk-c.ensures place.1 place.2 c.args.starts.now c.requires.starts

pub run_into-requires-clause-callable : goal.run_into-requires-clause-callable
run_into-requires-clause-callable g c =
    let s = c.args.self.now in
    all_range (given.F-pre g s.lift.now) s.items.now _ c.args.from (length c.args.piece.now) c.stretch-part.ensures c.requires.scan.callable

pub run_into-requires-clause-items : goal.run_into-requires-clause-items
run_into-requires-clause-items g c =
    let scan = c.requires.scan in
    let place = c.requires.place in
    piece_gives _ _ _ _ _ _ scan.scans (g.met.M.WordMonoid.lawful c.args.self.now.monoid.now) scan.sized.0 _ _ _ c.first_chunk-c.ensures place.2 place.1 _ c.stretch-part.ensures

pub run_into-requires-clause-start : goal.run_into-requires-clause-start
run_into-requires-clause-start g c =
    let scan = c.requires.scan in
    let place = c.requires.place in
    start_item _ _ _ _ _ _ scan.scans (g.met.M.WordMonoid.lawful c.args.self.now.monoid.now) scan.sized.0 _ _ _ c.first_chunk-c.ensures place.1 place.2 c.args.starts.now c.requires.starts _ c.index-starts-c.is

pub returns : goal.returns
returns g c =
    let scan = c.requires.scan in
    let place = c.requires.place in
    let laws = g.met.M.WordMonoid.lawful c.args.self.now.monoid.now in
    let start = start_is _ _ _ _ _ _ scan.scans laws scan.sized.0 _ _ _ c.first_chunk-c.ensures place.1 place.2 c.args.starts.now c.requires.starts _ c.index-starts-c.is in
    piece_filled _ _ _ _ _ _ scan.scans laws scan.sized.0 _ _ _ c.first_chunk-c.ensures place.2 place.1 _ c.stretch-part.ensures _ start _ c.run_into.ensures
