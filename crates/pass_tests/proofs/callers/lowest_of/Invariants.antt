use Rattle.std.proofs.Common.{◌%◌, slice_index}
use Rattle.pass_tests.proofs.callers.lowest_of.Given as goal

abbrev pub ghosts-least_of : goal.ghosts-least_of
ghosts-least_of g a = record { code_of = λ k. slice_index a.f.now.0.now k % 1024 }
