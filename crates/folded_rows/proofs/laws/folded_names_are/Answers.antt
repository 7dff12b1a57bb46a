use Rattle.std.proofs.Common.{◌∙◌}
use Rattle.source_meaning.specs.Rows.{post, program_node}
use Rattle.folded_rows.specs.Columns.{columns_of}
use Rattle.folded_rows.specs.Nodes.{keeps}
use Rattle.folded_rows.proofs.Picked.{keeps_many}
use Rattle.folded_rows.proofs.Left.{program_left}
use Rattle.folded_rows.proofs.FoldedRows.{program_flags, program_many}
use Rattle.folded_rows.proofs.FoldedNames.{names_left}
use Rattle.folded_rows.proofs.laws.folded_names_are.Goals as goal

pub returns : goal.returns
returns c = λ p values meant numbers main end shaped scoped told fixed names.
    let lows = c.parents_tell_subtrees.ensures.lows p in
    names_left p (columns_of (post p)) values (keeps (program_node p)) (keeps_many (program_node p) ∙ program_many p lows values told fixed) (program_flags p lows values told fixed)
    (program_left p (c.shaped_is_named.ensures p shaped)) meant numbers main end scoped names
