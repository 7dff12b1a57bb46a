use Rattle.std.proofs.Common.{[], ◌∷◌}
use Rattle.board_tests.proofs.status_boards.two_loads.Given as goal

abbrev pub ghosts-looks_back-N-Chunks : goal.ghosts-looks_back-N-Chunks
ghosts-looks_back-N-Chunks g a = record { items = []; sums = 5 ∷ 5 ∷ 5 ∷ 5 ∷ [] }

abbrev pub ghosts-looks_back-N-Codes : goal.ghosts-looks_back-N-Codes
ghosts-looks_back-N-Codes g a = record { sum_codes = 5 ∷ 5 ∷ 5 ∷ 5 ∷ []; prefix_codes = 5 ∷ 10 ∷ 15 ∷ 20 ∷ [] }

abbrev pub ghosts-looks_back-L-Ledger : goal.ghosts-looks_back-L-Ledger
ghosts-looks_back-L-Ledger g a = record { name = a.blank.name; parts = a.blank.parts }
