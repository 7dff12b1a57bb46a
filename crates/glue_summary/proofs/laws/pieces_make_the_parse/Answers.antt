-- The law of pieces.
use Rattle.glue_summary.proofs.Behinds.{pieces_parse, pieces_fault}
use Rattle.glue_summary.proofs.laws.pieces_make_the_parse.Goals as goal

pub returns : goal.returns
returns c = record { ok = pieces_parse; fault = pieces_fault }
