use Rattle.scan_lookback.specs.Laws.Cutting.{gives_chunk, sum_of_chunk, all_chunk}
use Rattle.scan_lookback.proofs.scanned.Scanned.chunk_sum.Given as given
use Rattle.scan_lookback.proofs.scanned.Scanned.chunk_sum.Goals as goal

pub fold_slice-requires-clause-callable : goal.fold_slice-requires-clause-callable
fold_slice-requires-clause-callable g c = let s = c.args.self.now in all_chunk (given.F-pre g s.lift.now) s.items.now _ s.size c.args.c c.chunk_slice.ensures c.requires.scan.callable

pub fold_slice-requires-clause-items : goal.fold_slice-requires-clause-items
fold_slice-requires-clause-items g c = gives_chunk _ _ _ _ _ _ c.requires.scan.scans c.args.c _ c.chunk_slice.ensures

pub returns : goal.returns
returns g c = sum_of_chunk _ _ _ _ _ _ c.requires.scan.scans c.args.c c.requires.chunk _ c.chunk_slice.ensures _ c.fold_slice.ensures
