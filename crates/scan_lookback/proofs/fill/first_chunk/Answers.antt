use Rattle.scan_lookback.specs.Laws.Cutting.{piece_begins}
use Rattle.scan_lookback.proofs.fill.first_chunk.Goals as goal

pub returns : goal.returns
returns c = piece_begins c.args.from c.args.per c.args.size c.requires.place
