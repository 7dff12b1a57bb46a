use Rattle.std.proofs.Common.{◌≡◌, map}
use Rattle.std.specs.List.{range_with_len}
use Rattle.rv_select.specs.Knowns.{code_layout}
use Rattle.rv_emit.specs.OfColumns.{words_from}
use Rattle.rv_emit.proofs.write.LaidOut.part_starts.Given as goal

abbrev pub invariant-loop-k : goal.invariant-loop-k
invariant-loop-k l = l.starts.items ≡ map (words_from l.self.columns.now (code_layout l.self.layout) l.self.places l.self.main l.size l.fn.parts.start) (range_with_len 0 l.k)
