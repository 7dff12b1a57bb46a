use Rattle.scan_lookback.proofs.board.ScanBoard.publish.Given as goal

-- nothing is counted here
abbrev pub ghosts-joined_before : goal.ghosts-joined_before
ghosts-joined_before g a = record { name = a.blank.name; parts = a.blank.parts }
