use Rattle.std.proofs.Common.{sym}
use Rattle.board_core.proofs.Playing.{kept_step}
use Rattle.board_core.proofs.boards.Core.play.Goals as goal

pub invariant_of-self : goal.invariant_of-self
invariant_of-self g c = kept_step _ _ c.as_slice-sums.result.now _ c.self.inside.state _ c.args.event c.apply.result c.as_slice-sums.ensures.value c.self.invariant (sym c.if-not-may.ensures) c.apply.ensures.ok c.apply.ensures.err
