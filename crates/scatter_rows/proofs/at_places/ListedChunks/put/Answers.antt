use Rattle.std.proofs.Common.{length}
use Rattle.chunk_seats.specs.Laws.Counted.{chunk_inside}
use Rattle.scatter_rows.proofs.at_places.ListedChunks.put.Goals as goal

pub put_chunk-requires-clause-chunk : goal.put_chunk-requires-clause-chunk
put_chunk-requires-clause-chunk g c = chunk_inside (length c.args.self.now.places.now) c.args.self.now.size c.args.c c.requires.fit.3 c.requires.chunk
