use Rattle.std.proofs.Common.{◌≡◌, ◌+◌, ◌-◌, ◌*◌, ◌≤◌}
use Rattle.code_rules.specs.RowPieces.{params_size}
use Rattle.rv_select.specs.Knowns.{frame_of}
use Rattle.rv_select.proofs.size.params_size.Given as goal

abbrev pub invariant-loop-j : goal.invariant-loop-j
invariant-loop-j l = (l.words + params_size (frame_of l.frame) l.j (l.params - l.j) ≡ params_size (frame_of l.frame) 0 l.params) × (l.words ≤ 3 * l.j)
