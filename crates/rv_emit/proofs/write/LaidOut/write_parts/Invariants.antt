use Rattle.std.proofs.Common.{◌≡◌, ◌*◌, min}
use Rattle.std.specs.Prelude.{flat_map}
use Rattle.std.specs.List.{range_with_len}
use Rattle.rv_select.specs.Knowns.{code_layout}
use Rattle.rv_emit.specs.OfColumns.{part_of}
use Rattle.rv_emit.proofs.write.LaidOut.write_parts.Given as goal

abbrev pub invariant-loop-w : goal.invariant-loop-w
invariant-loop-w g l = l.out.items ≡ flat_map (part_of l.self.columns.now (code_layout l.self.layout) l.self.places l.self.main l.size) (range_with_len 0 (min (l.w * l.per) l.count))
