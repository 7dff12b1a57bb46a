use Rattle.deal_board.proofs.board.DealBoard.split.Given as goal

abbrev pub ghosts-cut : goal.ghosts-cut
ghosts-cut g a = record { told = a.n }
