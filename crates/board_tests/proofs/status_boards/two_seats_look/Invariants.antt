use Rattle.std.proofs.Common.{[], ◌∷◌}
use Rattle.board_tests.proofs.status_boards.two_seats_look.Given as goal

abbrev pub ghosts-looks-N-Chunks : goal.ghosts-looks-N-Chunks
ghosts-looks-N-Chunks g a = record { items = []; sums = 4 ∷ 5 ∷ [] }

abbrev pub ghosts-looks-N-Codes : goal.ghosts-looks-N-Codes
ghosts-looks-N-Codes g a = record { sum_codes = 4 ∷ 5 ∷ []; prefix_codes = 4 ∷ 9 ∷ [] }
