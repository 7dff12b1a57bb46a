use Rattle.std.proofs.Common.{rules}
use Rattle.scatter_rows.proofs.Putting.{read_more}
use Rattle.scatter_rows.proofs.cells.read_out.Goals as goal

pub loop-c-preserved : goal.loop-c-preserved
loop-c-preserved c = read_more c.loop-c.out _ c.loop-c.c c.word.result _ (search rules) c.word.ensures (search rules) c.loop-c.invariant
