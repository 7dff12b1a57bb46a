use Rattle.std.proofs.Common.{slice_index_or}
use Rattle.par_passes.proofs.fewest.least.Given as goal

-- each place has its key
abbrev pub ghosts-least_by_number : goal.ghosts-least_by_number
ghosts-least_by_number g a = record { code_of = λ k. slice_index_or a.f.now.0.now k 0 }
