use Rattle.std.proofs.Common.{[], ◌∷◌}
use Rattle.board_tests.proofs.deals.one_item_is_replaced.Given as goal

abbrev pub ghosts-swaps : goal.ghosts-swaps
ghosts-swaps g a = record { items = 5 ∷ []; good = λ k x. Unit {0} }
