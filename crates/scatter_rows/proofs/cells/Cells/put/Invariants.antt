use Rattle.scatter_rows.proofs.cells.Cells.put.Given as goal

abbrev pub ghosts-put_told : goal.ghosts-put_told
ghosts-put_told g a = record { told = a.i }
