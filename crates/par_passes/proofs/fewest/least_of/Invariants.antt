use Rattle.par_passes.proofs.fewest.least_of.Given as goal

abbrev pub ghosts-least_by_number : goal.ghosts-least_by_number
ghosts-least_by_number g a = record { code_of = g.K.Lifted.code_of }
