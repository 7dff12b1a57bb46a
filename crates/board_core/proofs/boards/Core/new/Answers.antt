use Rattle.std.proofs.Common.{◌++◌, ap, ◌∙◌}
use Rattle.board_core.proofs.Playing.{kept_start}
use Rattle.board_core.proofs.boards.Core.new.Goals as goal

pub invariant_of-result : goal.invariant_of-result
invariant_of-result g c =
    kept_start _ _ c.args.sums.now _ _ (c.in_ok-extend_from_slice.ensures.items ∙ ap (λ l. l ++ c.args.sums.now) c.in_ok-own.ensures.items) c.requires.sums.0 c.requires.sums.1 c.requires.seats c.ranges.seats.fits c.in_ok-state.ensures
