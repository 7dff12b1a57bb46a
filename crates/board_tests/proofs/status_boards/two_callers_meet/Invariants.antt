use Rattle.std.proofs.Common.{[], ◌∷◌}
use Rattle.board_tests.proofs.status_boards.two_callers_meet.Given as goal

abbrev pub ghosts-meets-N-Chunks : goal.ghosts-meets-N-Chunks
ghosts-meets-N-Chunks g a = record { items = []; sums = 4 ∷ 5 ∷ [] }

abbrev pub ghosts-meets-N-Codes : goal.ghosts-meets-N-Codes
ghosts-meets-N-Codes g a = record { sum_codes = 4 ∷ 5 ∷ []; prefix_codes = 4 ∷ 9 ∷ [] }
