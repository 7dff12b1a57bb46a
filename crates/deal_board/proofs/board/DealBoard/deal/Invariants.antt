use Rattle.deal_board.proofs.board.DealBoard.deal.Given as goal

abbrev pub ghosts-draw : goal.ghosts-draw
ghosts-draw g a = record { told = a.self.now.count }
