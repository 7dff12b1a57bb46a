use Rattle.folding.specs.Folding.{folded_program}
use Rattle.folded_rows.proofs.FoldedRows.{folded_rows}
use Rattle.folded_rows.proofs.laws.folded_rows_are.Goals as goal

pub returns : goal.returns
returns c = λ p values shaped told fixed.
    let q = folded_program p in
    folded_rows p (c.parents_tell_subtrees.ensures.lows p) values told fixed (c.shaped_is_named.ensures p shaped) (c.evals_settle.ensures q) (c.marks_tell_programs.ensures.rows q)
    (c.marks_tell_programs.ensures.first q) (c.marks_tell_programs.ensures.next q)
