use Rattle.board_tests.proofs.status_boards.asks.Given as goal

abbrev pub ghosts-before_one : goal.ghosts-before_one
ghosts-before_one g a = record { name = a.blank.name; parts = a.blank.parts }
