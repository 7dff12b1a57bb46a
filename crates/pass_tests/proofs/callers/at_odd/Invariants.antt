use Rattle.std.proofs.Common.{◌%◌, slice_index, replicate}
use Rattle.pass_tests.proofs.callers.at_odd.Given as goal

abbrev pub ghosts-scatter_parts : goal.ghosts-scatter_parts
ghosts-scatter_parts g a = record { part = λ k. replicate (k % 2) (slice_index a.make.now.1.now k) }
