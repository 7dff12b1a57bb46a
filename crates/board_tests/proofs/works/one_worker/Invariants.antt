use Rattle.std.proofs.Common.{[], ◌∷◌}
use Rattle.board_tests.proofs.works.one_worker.Given as goal

abbrev pub ghosts-works-N-Chunks : goal.ghosts-works-N-Chunks
ghosts-works-N-Chunks g a = record { items = 3 ∷ 1 ∷ 4 ∷ 1 ∷ 5 ∷ []; sums = 4 ∷ 5 ∷ 5 ∷ [] }

abbrev pub ghosts-works-N-Codes : goal.ghosts-works-N-Codes
ghosts-works-N-Codes g a = record { sum_codes = 4 ∷ 5 ∷ 5 ∷ []; prefix_codes = 4 ∷ 9 ∷ 14 ∷ [] }
