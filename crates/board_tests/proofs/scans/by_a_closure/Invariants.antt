use Rattle.board_tests.proofs.scans.by_a_closure.Given as goal

abbrev pub ghosts-scan : goal.ghosts-scan
ghosts-scan g a = record { code_of = λ x. x }
