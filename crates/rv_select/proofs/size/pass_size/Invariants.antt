use Rattle.std.proofs.Common.{◌≡◌, ◌+◌, ◌-◌, ◌*◌, ◌≤◌}
use Rattle.code_rules.specs.RowPieces.{pass_size}
use Rattle.rv_select.specs.Knowns.{frame_of}
use Rattle.rv_select.proofs.size.pass_size.Given as goal

abbrev pub invariant-loop-i : goal.invariant-loop-i
invariant-loop-i l = (l.words + pass_size (frame_of l.frame) l.depth l.i (l.count - l.i) ≡ pass_size (frame_of l.frame) l.depth 0 l.count) × (l.words ≤ 3 * l.i)
