use Rattle.scatter_rows.proofs.cells.Cells.split.Given as goal

abbrev pub ghosts-part : goal.ghosts-part
ghosts-part g a = record { told = a.n }
