use Rattle.table_text.proofs.OnePiece.{piece_alone}
use Rattle.table_text.proofs.pieces.piece_by.Goals as goal

pub returns : goal.returns
returns c =
    piece_alone c.args.ahead.now.grammar.now c.args.ahead.now.b c.args.closes.now c.in_ok-opens.opens.items c.in_ok-productions.productions.items c.add_piece.new.productions.items
    c.in_ok-productions.ensures.items c.in_ok-opens.ensures
