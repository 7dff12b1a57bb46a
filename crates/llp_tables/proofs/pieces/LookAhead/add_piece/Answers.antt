use Rattle.std.proofs.Common.{sym, subst}
use Rattle.llp_tables.specs.Pieces.{IsReadable, AddsPiece}
use Rattle.llp_tables.proofs.Reading.{readable, piece_added}
use Rattle.llp_tables.proofs.pieces.LookAhead.add_piece.Goals as goal

pub read_terminal-requires-clause-readable : goal.read_terminal-requires-clause-readable
read_terminal-requires-clause-readable c =
    let m = c.requires.member in
    subst (IsReadable c.args.self.now.grammar.now c.args.self.now.b) (sym c.in_ok-unread.ensures) (readable c.args.self.now.grammar.now c.args.self.now.b m.0 c.args.closes.now m.1)

pub returns : goal.returns
returns c =
    let g = c.args.self.now.grammar.now in
    let before = c.args.productions.now.items in
    let after = c.read_terminal.new.productions.items in
    let added = piece_added g c.args.self.now.b c.in_ok-unread.unread c.read_terminal.new.unread before after c.in_ok-read_terminal.ensures in
    subst (λ opens. AddsPiece g c.args.self.now.b c.args.closes.now opens before after) (sym c.into_symbols.ensures)
    (subst (λ closes. AddsPiece g c.args.self.now.b closes c.read_terminal.new.unread before after) c.in_ok-unread.ensures added)
