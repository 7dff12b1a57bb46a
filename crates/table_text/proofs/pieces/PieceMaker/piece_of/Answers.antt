use Rattle.std.proofs.Common.{sym, subst, arith}
use Rattle.ll1_sets.specs.Predict.{ArePredictions}
use Rattle.llp_tables.specs.Laws.LookbackBounds.{lookback_in_range}
use Rattle.table_text.proofs.pieces.PieceMaker.piece_of.Goals as goal

pub column-column-requires : goal.column-column-requires
column-column-requires c =
    let within = (lookback_in_range c.args.self.now.grammar.now c.requires.formed c.requires.member.0 c.args.b c.args.closes.now c.requires.member.1).1 in
    let width = c.requires.outlines.table.width in
    omega arith

pub piece_by-requires-clause-predictions : goal.piece_by-requires-clause-predictions
piece_by-requires-clause-predictions c =
    subst (ArePredictions c.args.self.now.grammar.now c.args.b) (sym c.predictions.ensures) (c.requires.outlines.table.columns c.args.b c.column-column.result.now c.column-column.ensures).predictions
