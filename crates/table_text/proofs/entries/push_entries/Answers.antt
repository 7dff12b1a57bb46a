-- The grammar's tables are there: the whole pieces, of which these are the outlines.
use Rattle.std.proofs.lemmas.Result.{on_ok_weaker}
use Rattle.glue_summary.specs.Pieces.{Pieces}
use Rattle.table_text.specs.Listed.{all_lines, layer_lines}
use Rattle.table_text.proofs.Listing.{pairs_listed, triples_listed}
use Rattle.table_text.proofs.Outlining.{whole_entries, whole_pieces}
use Rattle.table_text.proofs.entries.push_entries.Goals as goal

pub returns-in-One : goal.returns-in-One
returns-in-One c =
    let g = c.args.grammar.now in
    let o = c.args.outlines.now in
    let whole : Pieces = whole_pieces g c.requires.formed o c.requires.outlines in
    let each = whole_entries g c.requires.formed o c.requires.outlines in
    on_ok_weaker c.push_layer.result
    (λ added. (layer_lines g o.sets 0 (whole 0), pairs_listed g whole o.sets c.in-One.field-0 c.in-One.is c.requires.outlines.sets each, added (whole 0) (each 0))) c.push_layer.ensures

pub returns : goal.returns
returns c =
    let g = c.args.grammar.now in
    let o = c.args.outlines.now in
    let whole : Pieces = whole_pieces g c.requires.formed o c.requires.outlines in
    let each = whole_entries g c.requires.formed o c.requires.outlines in
    on_ok_weaker c.push_layers.result
    (λ added. (all_lines g o.sets whole, triples_listed g whole o.sets c.in-Two.field-0 c.in-Two.is c.requires.outlines.sets each, added whole each)) c.push_layers.ensures
