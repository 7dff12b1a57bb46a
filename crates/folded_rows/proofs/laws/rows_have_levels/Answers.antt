use Rattle.source_meaning.specs.Rows.{post, program_node}
use Rattle.ast_rows.specs.Subtrees.{node_lows}
use Rattle.folded_rows.specs.Columns.{columns_of}
use Rattle.folded_rows.proofs.FoldedRows.{lows_there, rows_there}
use Rattle.folded_rows.proofs.Heights.{height_at, program_heights, program_linked}
use Rattle.folded_rows.proofs.laws.rows_have_levels.Goals as goal

pub returns-clause-linked : goal.returns-clause-linked
returns-clause-linked c = λ p told. program_linked p (rows_there (post p) told) (lows_there (columns_of (post p)) (node_lows 0 (program_node p)) (c.parents_tell_subtrees.ensures.lows p))

pub returns-clause-heights : goal.returns-clause-heights
returns-clause-heights c = λ p told.
    let rows = rows_there (post p) told in
    let lows = lows_there (columns_of (post p)) (node_lows 0 (program_node p)) (c.parents_tell_subtrees.ensures.lows p) in
    (height_at p rows lows, program_heights p rows lows)
