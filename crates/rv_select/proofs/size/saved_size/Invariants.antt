use Rattle.std.proofs.Common.{◌≡◌, ◌+◌, ◌-◌, ◌*◌, ◌≤◌}
use Rattle.code_rules.specs.RowPieces.{saved_size}
use Rattle.rv_select.specs.Knowns.{frame_of}
use Rattle.rv_select.proofs.size.saved_size.Given as goal

abbrev pub invariant-loop-i : goal.invariant-loop-i
invariant-loop-i l = (l.words + saved_size (frame_of l.frame) l.i (l.frame.registers - l.i) ≡ saved_size (frame_of l.frame) 0 l.frame.registers) × (l.words ≤ 3 * l.i)
