-- What is counted before each stretch so far.
use Rattle.std.proofs.Common.{◌≡◌}
use Rattle.list_cuts.specs.Cuts.{start_of}
use Rattle.name_pass.specs.RowNames.{count_in}
use Rattle.name_pass.specs.Stretches.{counts_of_stretches}
use Rattle.name_pass.proofs.declared.counts_before.Given as goal

abbrev pub invariant-loop-c : goal.invariant-loop-c
invariant-loop-c l = record {
  before : l.before ≡ count_in l.input.rows.now (start_of l.ends l.c);
  counts : l.counts.items ≡ counts_of_stretches l.input.rows.now l.ends l.c;
}
