use Rattle.std.proofs.Common.{length, arith}
use Rattle.word_monoid.specs.Folds.{prefix_of}
use Rattle.scan_lookback.proofs.Filling.{all_filled, in_piece}
use Rattle.scan_lookback.proofs.scanned.Scanned.fill.Goals as goal

pub returns : goal.returns
returns g c =
    let f = prefix_of (g.M.WordMonoid.ops c.args.self.now.monoid.now) g.N.Chunks.items in
    let as_many = c.requires.scan.scans.lifts.as_many in
    let wide = c.requires.wide in
    let kept = c.for_each_chunk_mut.auto.s in
    all_filled f (length g.N.Chunks.items) c.for_each_chunk_mut.new.s (omega (arith, as_many, wide, kept))
    (λ i d h. let k = (c.for_each_chunk_mut.ensures.by_index i d (omega (arith, as_many, wide))).1 in in_piece f k.start (length k.argument.now) k.offset i k.after_call.now d _ k.call k.offset_in_chunk k.start_plus_offset k.new_element)
