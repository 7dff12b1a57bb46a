use Rattle.back_end.proofs.coding.compiled.Given as goal

abbrev pub ghosts-folded : goal.ghosts-folded
ghosts-folded g a = record { name = a.blank.name; parts = a.blank.parts }
