use Rattle.source_meaning.specs.Grammar.{ast, leaves, left_parse}
use Rattle.row_walk.specs.Marks.{walk_marks}
use Rattle.row_walk.proofs.Settled.{some_marks, walk_emitted, walk_settled}
use Rattle.row_walk.proofs.laws.walks_give_rows.Goals as goal

pub returns-clause-emitted : goal.returns-clause-emitted
returns-clause-emitted c = walk_emitted c.tokens_are_cut.ensures.cut c.marks_tell_programs.ensures.emitted c.evals_settle.ensures

pub returns-clause-rows : goal.returns-clause-rows
returns-clause-rows c = λ r d. c.marks_tell_programs.ensures.rows (ast r) (walk_marks d (left_parse r) (leaves r)) (walk_settled c.tokens_are_cut.ensures.cut c.marks_tell_programs.ensures.emitted c.evals_settle.ensures r d)

pub returns-clause-faults : goal.returns-clause-faults
returns-clause-faults c = λ r d h. c.marks_tell_programs.ensures.faults (ast r) (walk_marks d (left_parse r) (leaves r)) (walk_settled c.tokens_are_cut.ensures.cut c.marks_tell_programs.ensures.emitted c.evals_settle.ensures r d) h

pub returns-clause-first : goal.returns-clause-first
returns-clause-first c = λ r d. c.marks_tell_programs.ensures.first (ast r) (walk_marks d (left_parse r) (leaves r)) (walk_settled c.tokens_are_cut.ensures.cut c.marks_tell_programs.ensures.emitted c.evals_settle.ensures r d) (some_marks r d)

pub returns-clause-next : goal.returns-clause-next
returns-clause-next c = λ r d k h. c.marks_tell_programs.ensures.next (ast r) (walk_marks d (left_parse r) (leaves r)) k (walk_settled c.tokens_are_cut.ensures.cut c.marks_tell_programs.ensures.emitted c.evals_settle.ensures r d) h
